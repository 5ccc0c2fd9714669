pub mod Drawing
pub mod Lines
pub mod Outputs
pub mod Run
pub mod Summary
pub mod inner
