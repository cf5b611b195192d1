pub mod ScheduleLemmas
pub mod WindowLemmas
pub mod PlaceLemmas
pub mod RoundLemmas
pub mod JoinLemmas
pub mod Examples
pub mod PartLemmas
