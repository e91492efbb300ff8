pub mod Kept
pub mod Trails
