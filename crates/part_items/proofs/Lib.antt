pub mod KeptPlaces
pub mod PartedItems
