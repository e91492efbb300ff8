pub mod Pieces
pub mod Writable
pub mod Named
pub mod Clauses
pub mod Shown
