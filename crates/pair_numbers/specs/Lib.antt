pub mod Pairs
pub mod Starts
