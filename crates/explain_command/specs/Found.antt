-- What an explanation comes to, for those who read what was printed.
pub use Rattle.core_explain.specs.Explained.{IsExplained}
pub use Rattle.core_explain.specs.declared.explaining.Explained.{Explained}
pub use Rattle.core_explain.specs.declared.explaining.Explained.TheVariants.{Inconsistent, Unit, NoUnit, TooMany, Undecided, Open}
