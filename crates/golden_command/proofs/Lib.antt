pub mod Replies
pub mod Tellings
pub mod Written
