pub mod Opening
pub mod Books
pub mod Cells
pub mod Turning
pub mod Numbering
pub mod Relimiting
pub mod Waiting
pub mod Agreement
