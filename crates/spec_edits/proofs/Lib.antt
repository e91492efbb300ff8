pub mod CopyEdits
pub mod CrossSums
pub mod Counting
pub mod GivenEdits
pub mod Kept
pub mod MorePairs
pub mod RuleEdits
pub mod SameButGiven
