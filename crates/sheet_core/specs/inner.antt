-- What only this crate's own functions cite.
pub mod Faults
pub mod Puts
pub mod Texts
pub mod Warnings
