-- What only this crate's own functions cite.
pub mod Faults
pub mod Kept
pub mod Made
pub mod Taken
pub mod Warned
