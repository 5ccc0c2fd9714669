pub mod Ends
pub mod CutLines
pub mod NearLines
pub mod Summary
