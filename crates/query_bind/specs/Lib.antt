pub mod Queried
pub mod Steps
