mod Writing
pub mod Texts
mod Numbers
pub mod Rules
pub mod Logs
