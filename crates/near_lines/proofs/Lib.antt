pub mod Boxes
pub mod ScaleLists
pub mod Sizes
