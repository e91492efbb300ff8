pub mod Claims
pub mod Listed
pub mod Differing
