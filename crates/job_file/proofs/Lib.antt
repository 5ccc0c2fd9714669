pub mod KeyLemmas
pub mod ListLemmas
pub mod DirectionLemmas
pub mod ViewLemmas
pub mod DocumentLemmas
