pub mod Golden
pub mod Steps
