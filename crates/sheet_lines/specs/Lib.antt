pub mod Kept
pub mod Lines
pub mod Shown
pub mod Ways
pub mod inner
