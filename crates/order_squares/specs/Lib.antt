pub mod Entities
pub mod Squares
