pub mod TrialPrinted
pub mod Exact
mod Explains
pub mod ForWords
mod GoldenPrinted
mod SessionsPrinted
pub mod InRange
pub mod JobsDone
mod KeptGuides
pub mod OneDue
pub mod OneText
pub mod Refusals
pub mod Replies
