pub mod Order
pub mod Sparing
pub mod GoingOn
pub mod CallsSpare
pub mod Quiet
pub mod Admitted
pub mod Listed
