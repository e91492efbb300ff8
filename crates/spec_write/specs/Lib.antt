pub mod Pieces
pub mod Unlined
