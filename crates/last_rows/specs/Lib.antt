pub mod Rows
pub mod Hints
pub mod Underway
pub mod Looks
