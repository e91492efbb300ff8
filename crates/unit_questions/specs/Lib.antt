pub mod Claims
pub mod Facts
pub mod Laws
pub mod Steps
pub mod Substituted
pub mod Units
