-- What only this crate's own functions cite.
pub mod Reading
pub mod Spaces
