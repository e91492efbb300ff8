pub mod Folds
pub mod Matching
