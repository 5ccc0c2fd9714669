pub mod Beyond
pub mod Crossings
pub mod Diagonals
pub mod Loops
pub mod Sides
pub mod inner
