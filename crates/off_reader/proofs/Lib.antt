pub mod Areas
pub mod Around
pub mod FanNumbers
pub mod Seen
pub mod Counted
pub mod Rows
pub mod Whole
pub mod OneReading
