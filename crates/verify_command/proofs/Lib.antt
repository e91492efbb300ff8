pub mod Accepted
pub mod Judging
pub mod OneVerdict
