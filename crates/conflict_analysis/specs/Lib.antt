pub mod Analyses
pub mod Steps
