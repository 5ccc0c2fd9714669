-- What only this crate's own functions cite.
pub mod Comparing
pub mod Digits
pub mod Pairs
pub mod Ratios
