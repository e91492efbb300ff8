mod Adding
mod Headless
pub mod Jobs
pub mod Replies
pub mod Tellings
mod Written
