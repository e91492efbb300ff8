pub mod Instances
pub mod Rules
