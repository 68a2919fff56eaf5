pub mod MutingLemmas
pub mod Giving
pub mod Visiting
pub mod Taking
