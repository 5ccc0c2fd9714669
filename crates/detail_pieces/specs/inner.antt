-- What only this crate's own functions cite.
pub mod Parts
pub mod Places
pub mod Sides
pub mod Steps
