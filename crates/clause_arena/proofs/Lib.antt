mod Cuts
mod Written
mod Changed
mod Halves
mod Sides
mod Added
mod Moved
mod Dropped
pub mod Left
