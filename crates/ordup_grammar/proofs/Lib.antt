pub mod ChangeParts
pub mod Decimals
pub mod PrefixLemmas
pub mod Splits
pub mod PrintedLemmas
pub mod PositionLemmas
pub mod SpelledLemmas
pub mod SettleLemmas
mod Examples
mod KeptLemmas
