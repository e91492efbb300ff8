-- What an accepted log shows: the literals whose units it has, and whether it has the empty clause.
use Rattle.std.specs.Prelude.{◌≡◌, ◌==◌, ◌||◌, Bool, true, false, List, [], ◌∷◌, length}
use Rattle.std.specs.List.{list_all, list_any, slice_index_or}
use Rattle.currency_base.specs.declared.lit.Lit.{Lit}

-- the clause has no literal
abbrev pub is_empty : List Lit → Bool
is_empty [] = true
is_empty (lit ∷ lits) = false

-- the clause is, as a set, just this literal
abbrev pub is_unit : Lit → List Lit → Bool
is_unit lit [] = false
is_unit lit (first ∷ lits) = list_all (λ l. l.0 == lit.0) (first ∷ lits)

-- which literals have a unit, two places for each variable; and whether there is an empty clause
pub record Shown : Type 0 where
  pub units : List Bool
  pub empty : Bool

-- the unit of a literal is there
abbrev pub shows_unit : Shown → Lit → Bool
shows_unit shown lit = slice_index_or shown.units lit.0 false

-- exactly what these clauses show
pub record IsShownBy (clauses : List (List Lit)) (shown : Shown) : Type 0 where
  pub unit : (lit : Lit) → shows_unit shown lit ≡ list_any (is_unit lit) clauses
  pub empty : shown.empty ≡ list_any is_empty clauses

-- one clause more is shown
pub record ShowsMore (old new : Shown) (clause : List Lit) : Type 0 where
  pub room : length new.units ≡ length old.units
  pub unit : (lit : Lit) → shows_unit new lit ≡ (shows_unit old lit || is_unit lit clause)
  pub empty : new.empty ≡ (old.empty || is_empty clause)
