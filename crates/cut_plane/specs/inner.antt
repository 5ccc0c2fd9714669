-- What only this crate's own functions cite.
pub mod Borders
pub mod Walks
pub mod Crossings
