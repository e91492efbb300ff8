-- How far the steps on a list of rows came.
use Rattle.std.specs.Prelude.{◌≡◌, ◌<◌, ◌≤◌, ℕ, suc, List, ◌++◌, Contains, length, slice_index_or}
use Rattle.currency_base.specs.Lists.{OnlyOnce}
use Rattle.currency_base.specs.declared.lit.Lit.{Lit}
use Rattle.refutation_log.specs.Steps.{clauses_of}
use Rattle.last_rows.specs.Rows.{AreDerived, IsClause, Literals, StandsAt, literals_of}
use Rattle.last_rows.specs.declared.derivation.Derivation.{Derivation}
use Rattle.last_rows.specs.declared.rows.RowList.{RowList}

-- the clauses of which the first rows are so many, and this row one, stands at its row's place
abbrev pub HasRow : RowList → List (List Lit) → Derivation → ℕ → ℕ → Type 0
HasRow l earlier d first row = StandsAt (IsClause (literals_of l) first row) (earlier ++ clauses_of d.steps)
    (slice_index_or d.places.items row 0)

-- of the clauses of the rows before the next the first rows are so many, and of those from it on still so many
pub record IsBetween (l : RowList) (earlier : List (List Lit)) (d : Derivation) (still first next : ℕ) : Type 0 where
  pub derived : AreDerived (literals_of l) earlier d.steps
  pub as_many : length d.places.items ≡ length l.tops.items
  pub done : (row : ℕ) → row < next → row < first → HasRow l earlier d first row
  pub left : (row : ℕ) → next ≤ row → row < still → row < length l.tops.items → HasRow l earlier d still row

-- the clauses of the rows before the next have no later row than that one among the first, and those from it to that one have it
abbrev pub IsUnderway : RowList → List (List Lit) → Derivation → ℕ → ℕ → Type 0
IsUnderway l earlier d later next = IsBetween l earlier d (suc later) later next

-- the names of the first rows, so many, each once
pub record AreNames (l : Literals) (count : ℕ) (lits : List Lit) : Type 0 where
  pub each : (lit : Lit) → Contains lits lit → (row : ℕ) × (row < count) × (lit ≡ l.name row)
  pub all : (row : ℕ) → row < count → Contains lits (l.name row)
  pub once : OnlyOnce lits
