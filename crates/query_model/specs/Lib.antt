pub mod Answers
pub mod Fitting
