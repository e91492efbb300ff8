pub mod Writings
pub mod Quotes
pub mod Numbers
pub mod Readings
pub mod Tokens
