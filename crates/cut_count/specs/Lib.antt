pub mod Bounds
pub mod Crossings
pub mod CutSpans
pub mod Tests
pub mod inner
