pub mod PlaceLemmas
pub mod LagLemmas
pub mod SentLemmas
