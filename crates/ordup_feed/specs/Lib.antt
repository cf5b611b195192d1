pub mod Parcels
pub mod QueueRule
pub mod CounterRule
pub mod Ends
pub mod EndsInside
pub mod Laws
