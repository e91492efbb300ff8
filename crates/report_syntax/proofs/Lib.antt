mod Counts
mod PassedOver
mod VerdictRules
mod CompletionRules
pub mod Rules
pub mod Sizes
