pub mod Candidates
pub mod Common
