pub mod Sessions
pub mod Steps
pub mod Texts
pub mod Transcripts
