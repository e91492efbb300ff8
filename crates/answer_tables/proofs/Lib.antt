mod Reading
pub mod Stages
