pub mod StoreLemmas
pub mod AfterLemmas
pub mod RunLemmas
pub mod StepLemmas
pub mod QueryLemmas
pub mod WorldLemmas
pub mod QueryStepLemmas
pub mod ImportLemmas
pub mod AlongLemmas
pub mod ChangeLemmas
mod Examples
mod KeepingExamples
