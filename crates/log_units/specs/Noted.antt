-- What the units of a log say is noted.
use Rattle.std.specs.Prelude.{◌≡◌, ◌<◌, ℕ, true, List, Contains, Option, Some}
use Rattle.std.specs.List.{list_any}
use Rattle.currency_base.specs.declared.lit.Lit.{Lit}
use Rattle.log_axioms.specs.Truth.{meaning}
use Rattle.log_axioms.specs.declared.signed.Signed.{Signed}
use Rattle.log_checker.specs.Shown.{is_unit}
use Rattle.refutation_log.specs.Steps.{clauses_of}
use Rattle.refutation_log.specs.declared.log.Log.{Log}
use Rattle.spec_model.specs.declared.relation.Relation.{Relation}
use Rattle.log_units.specs.Said.{has_row, pair_of, row_of, tuple_of}
use Rattle.log_units.specs.declared.index.Index.{Index}

-- a unit of a literal below a number says this
pub record IsSaid {K : Type 0} (said_by : Signed → Option K) (log : Log) (below : ℕ) (k : K) : Type 0 where
  pub lit : Lit
  pub early : lit.0 < below
  pub signed : Signed
  pub means : meaning log.statements lit ≡ Some signed
  pub says : said_by signed ≡ Some k
  pub there : list_any (is_unit lit) (clauses_of log.steps) ≡ true

-- exactly what such units say is noted
pub record Notes {K : Type 0} (said_by : Signed → Option K) (log : Log) (below : ℕ) (noted : K → Type 0) : Type 0 where
  pub all : (k : K) → IsSaid said_by log below k → noted k
  pub only : (k : K) → noted k → IsSaid said_by log below k

-- exactly the pairs, the rows and the tuples of which such units speak are noted
pub record AreNoted (relations : List Relation) (log : Log) (below : ℕ) (index : Index) : Type 0 where
  pub pairs : Notes pair_of log below (Contains index.pairs)
  pub rows : Notes (row_of relations) log below (has_row index.rows)
  pub answers : Notes (tuple_of log.answers) log below (Contains index.answers)
