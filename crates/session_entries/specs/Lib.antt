pub mod Entries
pub mod Renamed
