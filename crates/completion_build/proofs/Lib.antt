mod Scores
mod Decisions
mod Rounds
mod Falling
pub mod Tables
pub mod Leading
pub mod Building
mod Ends
pub mod Whole
