pub mod Corners
pub mod Drawn
pub mod Pairs
pub mod Tables
pub mod Walks
