pub mod Orders
pub mod TableOrders
pub use Rattle.currency_edge.specs.Shelf
pub use Rattle.currency_edge.specs.Fault
pub use Rattle.currency_csv.specs.Table
