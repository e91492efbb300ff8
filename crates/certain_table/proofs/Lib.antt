pub mod Jobs
pub mod Replies
pub mod Tellings
