pub mod Fits
pub mod Joined
pub mod Steps
