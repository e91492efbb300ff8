pub mod Walks
pub mod WatchRule
