pub mod KeptLists
pub mod KeptLits
pub mod KeptWatchers
pub mod KeptRules
pub mod RestFacts
pub mod SameFacts
pub mod ReasonFacts
pub mod WalkLits
pub mod WalkItems
mod WalkMoves
mod WalkGoes
mod WalkLooks
mod WalkRounds
mod WalkPasses
mod Resting
