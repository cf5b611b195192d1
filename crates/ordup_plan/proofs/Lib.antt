pub mod OutcomeLemmas
pub mod DealingLemmas
pub mod CountingLemmas
mod Examples
