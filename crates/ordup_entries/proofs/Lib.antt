pub mod FieldLaws
pub mod LineLaws
pub mod StepLaws
pub mod ReadingLemmas
pub mod EntryLaws
pub mod WrongLineLaws
