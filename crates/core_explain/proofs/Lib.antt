mod Bases
mod Claims
pub mod Completions
mod Reports
mod Units
