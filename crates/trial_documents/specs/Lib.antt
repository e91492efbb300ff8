pub mod Documents
pub mod Lines
pub mod Rows
pub mod Tables
