mod Sequence
mod Writables
pub mod ExplainStages
pub mod Replies
pub mod Jobs
