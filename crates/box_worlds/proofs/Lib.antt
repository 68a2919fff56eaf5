pub mod Quiet
pub mod Shorts
