pub mod Columns
pub mod Steps
pub mod Tuples
pub use Rattle.currency_edge.specs.Shelf
pub use Rattle.currency_edge.specs.Fault
pub use Rattle.currency_csv.specs.Table
