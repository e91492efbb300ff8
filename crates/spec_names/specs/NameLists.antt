-- What contracts see of the names of a specification.
use Rattle.std.specs.Prelude.{ℕ, List}
use Rattle.spec_names.specs.declared.names.RelationNames.{RelationNames}

-- the names of all relations, those of the parts of each, the names of all rules, and those of all copy functions
pub record NameLists : Type 0 where
  pub relations : List (List ℕ)
  pub each : List RelationNames
  pub rules : List (List ℕ)
  pub copies : List (List ℕ)
