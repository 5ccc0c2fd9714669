pub mod Edges
pub mod Orders
pub mod Picked
pub mod inner
