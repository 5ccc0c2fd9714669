-- What only this crate's own functions cite.
pub mod Hidden
pub mod CutHidden
pub mod Steps
pub mod Sections
