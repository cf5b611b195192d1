pub mod ParcelLemmas
pub mod QueueMoves
mod Examples
