-- What only this crate's own functions cite.
pub mod Fetch
pub mod Texts
