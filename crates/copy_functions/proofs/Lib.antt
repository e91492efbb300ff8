mod Mapped
mod PutSources
mod SameValues
pub mod TakenSources
