-- What only this crate's own functions cite.
pub mod Chained
pub mod Merged
pub mod Sources
pub mod Told
