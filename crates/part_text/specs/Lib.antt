pub mod Steps
pub mod Words
pub mod Vertices
pub mod Made
pub mod Texts
