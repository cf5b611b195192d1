pub mod WeightLemmas
pub mod SpanLemmas
pub mod JoinLemmas
pub mod GroupLemmas
pub mod StepLemmas
pub mod MovingLemmas
pub mod RowLemmas
pub mod PostingLemmas
pub mod LogLemmas
pub mod MostLemmas
mod Examples
