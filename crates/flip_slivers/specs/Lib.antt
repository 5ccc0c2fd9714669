pub mod Flipped
pub mod Pairs
pub mod inner
pub mod Flips
pub mod Heights
pub mod Near
