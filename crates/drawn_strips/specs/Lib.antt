pub mod Scenes
pub mod Strips
pub mod Traces
