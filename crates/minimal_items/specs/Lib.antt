pub mod Among
pub mod Explanations
pub mod Reduced
pub mod Trials
