pub mod Steps
pub mod Firsts
pub mod Cursor
pub mod Comments
pub mod TokenBytes
pub mod Promise
pub mod Only
