pub mod Endings
pub mod Named
pub mod Texts
pub mod Outcomes
pub mod Stages
pub mod Trees
pub mod Documents
pub mod Alike
