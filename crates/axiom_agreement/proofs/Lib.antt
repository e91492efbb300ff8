pub mod Agreeing
pub mod Tests
pub mod Sayings
mod Orders
mod Ruled
mod Copied
mod Wanted
mod Agreed
