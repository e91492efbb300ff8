mod Falsified
mod MarksSet
pub mod OneEnd
mod Reached
mod States
