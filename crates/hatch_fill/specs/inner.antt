-- What only this crate's own functions cite.
pub mod Crossings
pub mod Lines
pub mod Meetings
pub mod Numbers
pub mod Parts
pub mod Places
pub mod Stretches
