pub mod Possible
pub mod Text
pub mod Findings
