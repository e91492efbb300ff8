pub mod Chain
mod Tally
mod Bounds
pub mod GivenPairs
pub mod Leaving
mod Capped
pub mod PerEntity
pub mod OfSpec
