pub mod ReasonTexts
pub mod Reasons
