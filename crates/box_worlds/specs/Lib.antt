pub mod Spared
pub mod Unread
