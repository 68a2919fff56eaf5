pub mod Writing
pub mod Numbers
pub mod Sets
pub mod Atoms
pub mod FlagLists
pub mod Names
pub mod Room
