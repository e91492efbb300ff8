pub mod Marks
pub mod Replays
