pub mod TableLemmas
pub mod MatchLemmas
pub mod TableGood
pub mod PartLemmas
pub mod AskLemmas
