pub mod Columns
pub mod Names
pub mod Words
pub mod Refusals
pub mod Versions
pub mod Growth
pub mod RecordsSoFar
pub mod Taking
pub mod Running
pub mod ReadingBack
pub mod Beginnings
pub mod BadRows
pub mod FormLemmas
pub mod PlainLemmas
mod SentLemmas
pub mod SizeLemmas
pub mod TextLemmas
mod Examples
