-- What only this crate's own functions cite.
pub mod Refusals
pub mod Sizes
pub mod Strides
