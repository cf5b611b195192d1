pub mod ListLemmas
pub mod NameLemmas
pub mod RepeatLemmas
pub mod SumLemmas
pub mod SetLemmas
pub mod MoveLemmas
pub mod RefusalLemmas
pub mod TableLemmas
pub mod SameLemmas
pub mod SerialLemmas
pub mod SpanLemmas
pub mod JoinLemmas
mod Examples
