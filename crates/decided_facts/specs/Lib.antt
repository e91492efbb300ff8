pub mod Claims
pub mod Decided
pub mod Steps
