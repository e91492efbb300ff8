pub mod Lists
pub mod Marking
pub mod Ranking
pub mod Placing
