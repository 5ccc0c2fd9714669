mod Chains
mod Decided
mod Drawing
mod Endings
mod Readings
mod Runs
mod Showings
pub mod SomeRun
mod Takings
