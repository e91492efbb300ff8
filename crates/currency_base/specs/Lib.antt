pub mod ErrorCode
pub mod Lists
pub mod Literals
pub mod Number
pub mod Rows
pub mod Values
