-- What is found of a relation, for those who read what was printed.
pub use Rattle.golden_values.specs.declared.field.Golden.{Golden}
pub use Rattle.golden_values.specs.declared.field.Golden.TheVariants.{Records, Inconsistent, Undecided}
