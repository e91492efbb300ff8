pub mod ForcedText
pub mod Listing
