pub mod Hints
pub mod PartTexts
