pub mod Answered
pub mod Kept
pub mod Papers
pub mod PlaneSides
pub mod Scales
pub mod Standings
