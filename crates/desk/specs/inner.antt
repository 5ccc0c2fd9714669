-- What only this crate's own functions cite.
pub mod Places
pub mod Slots
pub mod Torn
