pub mod Readable
pub mod Pushed
mod Fronts
mod OneInstance
