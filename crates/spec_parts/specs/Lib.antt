pub mod Index
pub mod Built
pub mod Steps
