pub mod Merged
mod Steps
pub mod Shapes
