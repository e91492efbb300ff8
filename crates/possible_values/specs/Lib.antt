pub mod Candidates
pub mod Possible
pub mod Steps
