mod Alike
mod EntityRows
pub mod NameFacts
mod SameValues
