mod FoundLemmas
mod SynopsisLemmas
