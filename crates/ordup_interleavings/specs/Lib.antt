pub mod Moments
pub mod Kept
pub mod Holds
pub mod Promises
pub mod Calls
pub mod Stores
