pub mod Lines
pub mod Places
pub mod Readings
pub mod Seen
pub mod Spelling
pub mod Toml
pub mod Values
