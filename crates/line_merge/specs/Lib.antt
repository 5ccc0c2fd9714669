pub mod Merging
pub mod Numbers
pub mod Taken
pub mod inner
