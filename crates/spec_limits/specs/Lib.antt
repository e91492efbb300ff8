pub mod Limits
pub mod Instances
pub mod Left
