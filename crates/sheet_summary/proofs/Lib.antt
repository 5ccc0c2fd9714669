pub mod Extents
pub mod Lines
