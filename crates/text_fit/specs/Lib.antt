pub mod Widths
pub mod Fits
pub mod inner
