-- What only this crate's own functions cite.
pub mod Drawing
pub mod Judging
pub mod Showing
pub mod Steps
pub mod Taking
