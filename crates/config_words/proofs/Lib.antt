pub mod MeaningLemmas
pub mod ChosenLemmas
