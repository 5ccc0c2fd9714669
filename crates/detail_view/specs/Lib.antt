pub mod Drawn
pub mod Faults
pub mod Run
pub mod Seen
pub mod Steps
pub mod Words
pub mod Taken
pub mod inner
