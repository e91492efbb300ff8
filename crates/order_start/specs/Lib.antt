pub mod Guess
pub mod Lists
