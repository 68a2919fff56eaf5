pub mod FlagLemmas
pub mod EntryLemmas
pub mod EntryEnds
pub mod Walks
pub mod LookUps
pub mod WorldLemmas
