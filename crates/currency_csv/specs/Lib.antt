pub mod Sources
pub mod Table
pub mod Capped
