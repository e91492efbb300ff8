pub mod Completions
pub mod Ends
mod Everything
pub mod Joins
pub mod Pairs
pub mod Parts
pub mod Rules
pub mod Wides
