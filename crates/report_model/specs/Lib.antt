pub mod Verdicts
pub mod Writable
