pub mod Hints
pub mod Lines
pub mod Mending
pub mod Run
pub mod Seen
pub mod Telling
pub mod Writing
pub mod inner
