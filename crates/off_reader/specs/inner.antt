-- What only this crate's own functions cite.
pub mod Fans
pub mod Rows
