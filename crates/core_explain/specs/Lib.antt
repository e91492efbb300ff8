pub mod Explained
pub mod Steps
