pub mod Sparse
pub mod Alikes
pub mod OneList
pub mod OneView
pub mod CutLines
pub mod HalfPlanes
pub mod PlainLines
pub mod Shrinking
pub mod ViewLines
pub mod ViewOrder
pub mod CornerViewLines
mod InOrder
mod LinesAlong
mod LinesListed
mod LinesThrough
mod TraceViewLines
pub mod OnePoint
pub mod OnPaper
pub mod Reach
pub mod Drawn
pub mod Hatched
mod Traced
