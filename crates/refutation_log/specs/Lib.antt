pub mod Steps
pub mod Follows
pub mod Counted
pub mod Kept
pub mod Writable
pub mod Numbered
