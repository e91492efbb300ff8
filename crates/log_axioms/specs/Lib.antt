pub mod Posed
pub mod Truth
pub mod Matches
pub mod Axioms
pub mod Entities
