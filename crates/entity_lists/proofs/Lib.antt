pub mod Facts
pub mod Counts
mod Slots
mod Made
