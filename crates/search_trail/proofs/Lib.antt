mod LitFacts
mod EntryFacts
mod ValueLists
mod LevelFacts
pub mod Scopes
mod Marks
mod Fits
mod Asked
mod Steps
pub mod KnownValues
