pub mod Grammar
pub mod Names
pub mod Seen
pub mod Titles
