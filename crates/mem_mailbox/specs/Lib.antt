pub mod BoxConditions
pub mod Listings
pub mod Views
pub mod Named
pub mod MemMailboxes
