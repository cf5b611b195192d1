pub mod Successors
pub mod Ends
