pub mod CellLemmas
pub mod BookLemmas
pub mod SettlementLemmas
mod OpeningLemmas
pub mod Examples
