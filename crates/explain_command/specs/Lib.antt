pub mod Text
pub mod Explained
pub mod Found
pub mod Writable
