pub mod Answering
pub mod NameTexts
pub mod Spent
