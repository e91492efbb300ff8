pub mod Models
pub mod Matches
