pub mod ForcedTexts
pub mod OneText
pub mod Replies
