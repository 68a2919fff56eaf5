pub mod Cut
pub mod Escape
pub mod Lines
pub mod Number
