pub mod ListedLemmas
pub mod LoanLemmas
pub mod OrderLemmas
pub mod PlacedLemmas
mod Walks
