mod AnsweredIn
mod Answering
mod Decisions
mod Drawn
pub mod Instances
mod Places
