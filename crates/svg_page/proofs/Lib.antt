pub mod Pages
pub mod Groups
