mod PairsNamed
mod RowsNamed
pub mod Ends
pub mod NamesKept
mod Unread
