pub mod Cells
pub mod Numbered
mod AxiomCells
pub mod Staying
pub mod KeyPlaces
mod KeyOrder
mod Summing
mod SourceRows
mod BlockKeys
mod Parting
