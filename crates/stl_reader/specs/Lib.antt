pub mod Letters
pub mod Stl
pub mod inner
