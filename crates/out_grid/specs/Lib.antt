pub mod Bounds
pub mod Cells
pub mod Grids
pub mod Near
pub mod inner
