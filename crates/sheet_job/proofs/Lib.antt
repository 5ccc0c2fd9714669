pub mod EntryLemmas
pub mod NumberLemmas
pub mod NameLemmas
pub mod JobAtLemmas
pub mod AnyLemmas
pub mod JobAtOnce
