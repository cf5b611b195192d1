pub mod AsBox
pub mod StatusLemmas
pub mod PrimaryLemmas
