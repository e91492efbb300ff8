pub mod Form
pub mod Indexed
