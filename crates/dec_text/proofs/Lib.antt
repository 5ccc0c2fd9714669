pub mod Digits
pub mod Parts
pub mod Rests
pub mod Rounding
pub mod States
pub mod Units
