pub mod Asked
pub mod Bound
pub mod Steps
pub use Rattle.currency_edge.specs.Shelf
pub use Rattle.currency_edge.specs.Fault
pub use Rattle.currency_csv.specs.Table
