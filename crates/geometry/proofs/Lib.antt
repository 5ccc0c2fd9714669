pub mod Listed
pub mod Sights
pub mod Shares
pub mod FacePoints
pub mod EachEdge
pub mod EdgeLines
pub mod StepLines
pub mod OnLines
pub mod Counts
pub mod Borders
pub mod BorderSteps
pub mod PlaceOrder
pub mod PlaceFractions
pub mod SamePlaces
pub mod TracePoints
pub mod EdgesListed
mod Lists
pub mod Crossings
mod ForEach
mod Marks
pub mod EdgeStepLines
mod CornerMarks
mod BorderEnds
pub mod TraceStepLines
mod TraceEnds
mod PlainViews
mod TraceViews
pub mod CutViews
mod EachPart
