pub mod Derived
pub mod Clauses
pub mod Kept
pub mod Forced
pub mod Laws
