pub mod Lines
pub mod RefusalLemmas
pub mod NearestNumberLemmas
pub mod AnsweringLemmas
mod TextLemmas
mod KnownLemmas
