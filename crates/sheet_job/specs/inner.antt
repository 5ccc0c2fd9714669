-- What only this crate's own functions cite.
pub mod WrongValues
pub mod Stops
pub mod ViewsAt
