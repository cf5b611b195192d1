mod ColumnLemmas
mod RowLemmas
mod UpdateLemmas
mod ReadSteps
mod LimitLemmas
mod Cuts
mod TextAnswers
mod SameRows
mod LongRowLemmas
mod PlainRowLemmas
mod CutRows
mod SeriesLemmas
mod JudgingLemmas
pub mod SeriesTexts
mod SeriesAnswers
mod WrittenSeries
mod Examples
