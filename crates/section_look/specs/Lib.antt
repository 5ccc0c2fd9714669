pub mod Regions
pub mod Thin
pub mod Spacings
pub mod Looks
pub mod inner
pub mod HatchStrokes
