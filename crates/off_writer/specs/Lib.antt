pub mod OffTexts
