pub mod FoundTexts
pub mod OwnItems
pub mod Replies
pub mod Written
pub mod Jobs
