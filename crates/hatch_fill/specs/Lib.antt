pub mod Chords
pub mod Hatching
pub mod inner
