pub mod Bound
pub use Rattle.bound_spec.specs.Growth
pub use Rattle.currency_edge.specs.Shelf
pub use Rattle.currency_edge.specs.Fault
