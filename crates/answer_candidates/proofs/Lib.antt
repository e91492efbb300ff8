pub mod Growing
pub mod Marking
pub mod Noting
mod Remaining
