pub mod Archives
pub mod Stages
