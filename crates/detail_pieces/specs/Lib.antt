pub mod Details
pub mod Windows
pub mod inner
pub mod Pages
