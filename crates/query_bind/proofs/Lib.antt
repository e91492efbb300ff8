pub mod Fits
pub mod Kept
pub mod Lists
pub mod Names
pub mod OneKind
pub mod Plain
pub mod Walk
pub mod Whole
