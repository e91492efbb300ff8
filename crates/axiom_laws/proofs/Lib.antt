pub mod Chosen
mod ClaimedRows
mod CopyClauses
pub mod Decisions
pub mod MatchClauses
mod OrderClauses
mod RuleClauses
pub mod SaysSame
pub mod Standing
mod TopClauses
pub mod Sound
pub mod Truths
