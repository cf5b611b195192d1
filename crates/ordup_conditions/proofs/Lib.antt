pub mod ConditionLemmas
mod Examples
