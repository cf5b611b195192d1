pub mod Lines
pub mod Spread
pub mod DeclaringLines
pub mod ReadingBack
pub mod Ends
