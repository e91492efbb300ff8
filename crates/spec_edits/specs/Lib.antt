pub mod Edits
pub mod Counted
pub mod Partners
pub mod Kept
