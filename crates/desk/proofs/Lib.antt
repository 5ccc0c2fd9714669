pub mod Fetches
pub mod Places
pub mod Slots
pub mod Torn
