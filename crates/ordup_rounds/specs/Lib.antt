pub mod Schedules
pub mod Windows
pub mod Rounds
pub mod Fewest
pub mod Joins
