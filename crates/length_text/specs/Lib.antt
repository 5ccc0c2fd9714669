pub mod Lengths
pub mod Inches
pub mod Places
