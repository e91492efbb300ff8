pub mod Answered
pub mod Answering
pub mod Goals
pub mod Reported
pub mod Deciding
