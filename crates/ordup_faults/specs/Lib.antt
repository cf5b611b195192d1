pub mod Faults
pub mod Printing
