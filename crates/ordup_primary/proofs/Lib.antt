pub mod DecisionLemmas
pub mod SettlingLemmas
mod LedgerLemmas
pub mod RelimitLemmas
pub mod ReportLemmas
mod KeptLemmas
pub mod PrimaryLemmas
pub mod SetupLemmas
pub mod ParcelLemmas
mod Examples
