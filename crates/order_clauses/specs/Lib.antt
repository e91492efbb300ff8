pub mod Clauses
pub mod Subject
pub mod Added
pub mod Listing
