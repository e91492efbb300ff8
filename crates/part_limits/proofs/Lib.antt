pub mod Totals
pub mod Placed
pub mod PartRows
pub mod PartCopies
pub mod PartsWithin
