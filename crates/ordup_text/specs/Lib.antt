pub mod TextBuffers
pub mod TextBufferInside
pub mod Lines
pub mod Fronts
