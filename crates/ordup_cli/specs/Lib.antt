pub mod Plans
pub mod Jobs
pub mod Acts
