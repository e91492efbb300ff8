pub mod Gathering
pub mod UpToReaders
pub mod WordLines
pub mod Keywords
pub mod Tokens
pub mod Rules
pub mod StepRules
pub mod Logs
pub mod EndingReaders
pub mod LogParts
pub mod Sizes
mod WholeLogs
