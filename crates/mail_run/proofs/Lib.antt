pub mod GrownLemmas
pub mod ShownLemmas
