pub mod CountedEdges
pub mod CountedSpans
pub mod OriginStrips
pub mod PlacedSources
pub mod RightViews
pub mod Runs
