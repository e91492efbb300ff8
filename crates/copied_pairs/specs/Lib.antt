pub mod Copied
pub mod Listing
