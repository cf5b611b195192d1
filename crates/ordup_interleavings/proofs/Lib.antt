pub mod TurnLemmas
pub mod SoundLemmas
pub mod SiteLemmas
pub mod SessionLemmas
pub mod QueryLemmas
pub mod RunLemmas
pub mod RefinementLemmas
pub mod RunOfHoldsLemmas
pub mod CallLemmas
mod Examples
mod StepExamples
mod StoreLemmas
mod StoreExamples
