-- What only this crate's own functions cite.
pub mod Courses
pub mod Edges
pub mod Heights
pub mod Places
