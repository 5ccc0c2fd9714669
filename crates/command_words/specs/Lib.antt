pub mod Grammar
pub mod Seen
pub mod inner
