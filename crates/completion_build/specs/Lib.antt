pub mod Ranked
pub mod Contests
pub mod Judged
pub mod Places
pub mod Drafts
pub mod Sources
