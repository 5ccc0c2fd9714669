pub mod DrawnViews
pub mod InBoxes
pub mod Planned
pub mod StrokeLists
pub mod ViewSums
