pub mod MemCalls
pub mod Within
