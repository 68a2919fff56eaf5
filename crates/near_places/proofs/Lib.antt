pub mod BoxLemmas
pub mod FoundLemmas
pub mod LookLemmas
pub mod MemberLemmas
mod PathLemmas
pub mod StepLemmas
pub mod TreeLemmas
mod Walks
