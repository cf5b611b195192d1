pub mod Sizes
pub mod Imports
pub mod Queries
pub mod QueryInside
