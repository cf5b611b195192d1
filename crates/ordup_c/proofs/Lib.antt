pub mod AsBox
pub mod Sessions
mod Examples
mod PushedLines
