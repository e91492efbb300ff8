-- A disjunct whose comparisons were looked at, and whose atoms are put in order.
use Rattle.std.specs.Prelude.{◌≡◌, Bool, List, All, Contains}
use Rattle.std.specs.Bool.{OnTrue}
use Rattle.query_model.specs.Fitting.{IsDisjunct}
use Rattle.query_model.specs.declared.query.Atom.{Atom}
use Rattle.query_model.specs.declared.query.Disjunct.{Disjunct}
use Rattle.query_model.specs.declared.query.Test.{Test}
use Rattle.query_plan.specs.Implied.{AreContrary, Equated, IsImplied}

-- comparisons, and which variables have the values of which of their sides
pub record Conditioned : Type 0 where
  pub tests : List Test
  pub equalities : List Equated

-- these follow, and where it is said that no values meet the comparisons none do
pub record AreConditions (tests : List Test) (equalities : List Equated) (is_contrary : Bool) : Type 0 where
  pub implied : All (IsImplied tests) equalities
  pub contrary : OnTrue is_contrary (AreContrary tests)

-- the same atoms, in some order, each once or more
pub record AreSameAtoms (atoms steps : List Atom) : Type 0 where
  pub each : (atom : Atom) → Contains steps atom → Contains atoms atom
  pub all : (atom : Atom) → Contains atoms atom → Contains steps atom

-- a disjunct that fits, what its comparisons say, and an order of its atoms
pub record IsPlanned (d : Disjunct) (conditions : Conditioned) (steps : List Atom) : Type 0 where
  pub fits : IsDisjunct d
  pub tests : conditions.tests ≡ d.tests
  pub implied : All (IsImplied conditions.tests) conditions.equalities
  pub same : AreSameAtoms d.atoms steps
