mod AllBlocks
mod Few
mod Firsts
mod Inside
mod Kept
mod Lengths
mod Placed
mod Saying
mod Searched
mod Tabled
pub mod Callers
pub mod Ascents
pub mod BlockLaws
pub mod Deciding
pub mod Items
pub mod Members
pub mod Order
pub mod RowLaws
pub mod Sayings
