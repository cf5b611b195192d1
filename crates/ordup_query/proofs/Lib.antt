pub mod ImportLemmas
mod Examples
