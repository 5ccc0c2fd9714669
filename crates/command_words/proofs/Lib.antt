pub mod RuleLemmas
pub mod WordLemmas
pub mod RowLemmas
pub mod TurnLemmas
pub mod SentenceLemmas
