-- What only this crate's own functions cite.
pub mod Courses
pub mod Lists
pub mod Places
pub mod Triangles
