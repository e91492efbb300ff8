pub mod Quotes
pub mod Steps
pub mod Unique
pub mod Texts
