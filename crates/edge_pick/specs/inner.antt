-- What only this crate's own functions cite.
pub mod Numberings
pub mod Searches
