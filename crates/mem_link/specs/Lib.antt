pub mod MemLines
pub mod Served
pub mod Losing
pub mod MemLinks
pub mod Others
pub mod Acted
pub mod Muting
