pub mod Choosing
pub mod Grounds
pub mod Lookups
pub mod Parts
pub mod Tests
