pub mod ClosedLemmas
pub mod QueryLemmas
pub mod OpeningRefusal
mod Examples
