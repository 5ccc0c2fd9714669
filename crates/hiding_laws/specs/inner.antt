-- What only functions that aren't public cite.
pub mod CornerTests
pub mod Perturbations
pub mod Tallies
