pub mod Pieces
pub mod Spelling
pub mod Spacing
pub mod Written
