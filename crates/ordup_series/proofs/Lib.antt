pub mod AuditLemmas
pub mod DifferLemmas
mod Examples
pub mod SeriesLemmas
