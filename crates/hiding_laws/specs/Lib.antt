pub mod inner
pub mod Values
pub mod CutValues
pub mod Sums
