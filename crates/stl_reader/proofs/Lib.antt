pub mod Checks
pub mod Turns
pub mod Shorter
pub mod Whole
pub mod OneReading
