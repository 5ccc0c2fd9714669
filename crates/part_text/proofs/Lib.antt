pub mod Readings
pub mod Units
pub mod Again
pub mod Single
pub mod FirstZero
pub mod WholeTexts
