pub mod Crossings
pub mod Ends
pub mod Lines
pub mod Sights
pub mod SolidSights
pub mod inner
