pub mod Each
pub mod Puts
