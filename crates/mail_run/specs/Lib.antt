pub mod NamedBoxes
pub mod Settled
pub mod Grown
