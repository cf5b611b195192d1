pub mod Common
pub mod RecordLemmas
pub mod ReportLemmas
pub mod AscendingLemmas
pub mod CursorLemmas
pub mod LegalityLemmas
pub mod PassingLemmas
pub mod VerdictLemmas
pub mod BeginningLemmas
mod Examples
mod LeastStartLemmas
