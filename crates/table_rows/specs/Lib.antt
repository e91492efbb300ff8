pub mod Growth
pub mod Rows
