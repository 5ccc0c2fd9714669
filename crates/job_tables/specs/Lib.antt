pub mod Faults
pub mod Hints
pub mod Keys
pub mod Known
pub mod Refused
pub mod Seen
pub mod Tables
pub mod inner
