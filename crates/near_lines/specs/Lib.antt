pub mod Near
pub mod Scales
pub mod Sides
pub mod inner
