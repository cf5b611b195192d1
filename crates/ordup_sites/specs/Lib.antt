pub mod Audits
pub mod Sites
