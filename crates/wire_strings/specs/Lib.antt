pub mod Texts
pub mod Quotes
pub mod Delimiters
pub mod Literals
pub mod Strings
pub mod Room
