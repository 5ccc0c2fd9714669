pub mod Counting
pub mod Ends
pub mod Putting
pub mod Reasoned
pub mod Runs
pub mod Saying
pub mod Warnings
