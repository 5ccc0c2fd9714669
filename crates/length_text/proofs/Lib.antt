pub mod Digits
pub mod Nearest
