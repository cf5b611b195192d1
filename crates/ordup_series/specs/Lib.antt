pub mod Audits
pub mod Ends
pub mod Reasons
pub mod Series
