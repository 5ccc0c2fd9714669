pub mod CutCounts
pub mod CutEnds
pub mod CutShares
pub mod BorderShares
pub mod CutCovers
