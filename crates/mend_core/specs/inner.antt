-- What only this crate's own functions cite.
pub mod Faults
pub mod FileLines
pub mod Refusals
pub mod Repairs
pub mod Texts
