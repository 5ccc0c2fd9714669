pub mod AlongEdges
pub mod CommonPoints
pub mod FirstHalves
pub mod FirstWeights
pub mod Faults
pub mod Rounding
