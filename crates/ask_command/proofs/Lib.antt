pub mod AskStages
pub mod OneAnswer
pub mod Jobs
pub mod Replies
