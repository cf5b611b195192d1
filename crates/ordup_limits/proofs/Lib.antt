pub mod LimitLemmas
pub mod PutLemmas
pub mod EntryLemmas
pub mod JoinLemmas
mod TotalLemmas
mod RaisedLemmas
pub mod MaskLemmas
pub mod LedgerLemmas
mod PassedLemmas
mod ChangeLemmas
mod GroupBitLemmas
pub mod SiteLemmas
pub mod OverLemmas
pub mod LatestLemmas
mod Examples
