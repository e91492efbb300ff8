pub mod Open
pub mod Parts
pub mod Pieces
