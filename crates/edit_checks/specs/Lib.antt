pub mod Stays
pub mod Mapped
