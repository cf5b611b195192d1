pub mod Owned
pub mod Stores
pub mod Sessions
pub mod Calls
pub mod Records
pub mod Checks
pub mod Successors
pub mod Laws
