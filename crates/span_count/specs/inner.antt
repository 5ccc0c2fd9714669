-- What only this crate's own functions cite.
pub mod Rests
pub mod Steps
pub mod Tours
