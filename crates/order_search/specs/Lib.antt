pub mod Searches
pub mod Kept
pub mod Parts
pub mod Tied
pub mod Moved
pub mod Made
pub mod Lasting
