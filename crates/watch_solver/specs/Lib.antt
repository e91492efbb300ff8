pub mod Decided
pub mod Underway
