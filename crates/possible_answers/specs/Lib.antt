pub mod Answers
pub mod Distinct
pub mod Heads
