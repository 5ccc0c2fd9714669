pub mod Touching
pub mod Ranges
pub mod Boxes
pub mod inner
