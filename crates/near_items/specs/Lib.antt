pub mod Sites
pub mod Sought
pub mod Steps
