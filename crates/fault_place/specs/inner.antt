-- What only this crate's own functions cite.
pub mod Bounds
pub mod Halves
pub mod Meetings
