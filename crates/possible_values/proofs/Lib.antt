mod Counting
pub mod Few
mod Lists
mod Listed
mod Placing
mod Deciding
mod Turned
mod Findings
mod Telling
mod Outcomes
