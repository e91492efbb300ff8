mod Sources
mod Putting
mod Values
mod Places
mod Atoms
pub mod Matches
