pub mod Starts
pub mod Sessions
pub mod Looks
