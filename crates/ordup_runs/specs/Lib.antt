pub mod Faults
pub mod Answers
pub mod Records
pub mod Explained
