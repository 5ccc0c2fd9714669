pub mod Counts
pub mod Numbers
pub mod Views
pub mod inner
