-- What only this crate's own functions cite.
pub mod Ends
pub mod Kinds
pub mod Laws
pub mod Numbering
pub mod Pieces
