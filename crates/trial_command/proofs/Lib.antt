pub mod Replies
pub mod Trials
