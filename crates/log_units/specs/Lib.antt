pub mod Units
pub mod Said
pub mod Noted
