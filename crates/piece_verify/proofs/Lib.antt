pub mod Lines
pub mod Reading
mod Judging
mod SlowSpans
mod Unlike
mod Verdicts
mod ViewPieces
pub mod Alike
pub mod Heads
pub mod Joins
pub mod ListLines
pub mod Numerals
pub mod Parts
pub mod Ratios
pub mod SomeColumns
pub mod SomeList
