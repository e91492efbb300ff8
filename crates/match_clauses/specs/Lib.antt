pub mod Matched
pub mod Claimed
pub mod Clauses
