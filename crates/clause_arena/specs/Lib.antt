pub mod Arenas
pub mod Slots
