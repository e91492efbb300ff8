pub mod Asked
pub mod Golden
pub mod Found
pub mod Text
pub mod Writable
