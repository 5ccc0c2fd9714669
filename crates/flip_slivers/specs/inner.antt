-- What only this crate's own functions cite.
pub mod Choices
pub mod Lists
pub mod Measures
pub mod Partners
