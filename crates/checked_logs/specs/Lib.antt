pub mod Sound
pub mod Trimmed
