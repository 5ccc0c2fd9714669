pub mod Called
pub mod PlainJobs
pub mod Pairs
