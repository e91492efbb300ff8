pub mod Found
pub mod Kept
pub mod Lookups
pub mod Partly
pub mod Planned
pub mod Seen
pub mod Shapes
pub mod TupleOrder
