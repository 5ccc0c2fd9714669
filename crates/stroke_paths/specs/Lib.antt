pub mod Joints
pub mod Neighbours
pub mod Paths
pub mod Routes
pub mod inner
