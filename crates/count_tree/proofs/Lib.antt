pub mod Orders
pub mod Paths
pub mod Written
pub mod Changed
