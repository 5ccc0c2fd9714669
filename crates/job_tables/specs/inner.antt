-- What only this crate's own functions cite.
pub mod Headed
pub mod SaysFault
