pub mod Below
pub mod Adding
pub mod Following
pub mod Leaving
pub mod Currents
pub mod Growing
pub mod Threes
pub mod Looked
