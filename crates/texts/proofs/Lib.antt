pub mod CutLemmas
pub mod EscapeLemmas
pub mod LineLemmas
pub mod NumberLemmas
pub mod StartLemmas
