-- What a look at clauses finds.
use Rattle.std.specs.Prelude.{◌≡◌, ◌≢◌, ◌<◌, ◌≤◌, ℕ, List, Contains, length, slice_index_or}
use Rattle.currency_base.specs.declared.lit.Lit.{Lit}
use Rattle.refutation_log.specs.Follows.{clause_at}
use Rattle.last_rows.specs.Rows.{AreLaters, IsClause, IsLast, IsSquare, IsThree, IsUnit, StandsAt, later_of, later_place_of, literals_of, three_of}
use Rattle.last_rows.specs.declared.rows.RowList.{RowList}

-- there is as much said of each row, and they are not too many
pub record IsShaped (l : RowList) : Type 0 where
  pub square : IsSquare l
  pub laters : AreLaters l
  pub few : length l.tops.items ≤ 65536
  pub top_places : length l.top_places.items ≡ length l.tops.items
  pub last_places : length l.last_places.items ≡ length l.tops.items

-- the literals of the clause at a place are among these, and this is one of them
pub record AreAmong (clauses : List (List Lit)) (place : ℕ) (lits : List Lit) (one : Lit) : Type 0 where
  pub known : place < length clauses
  pub each : (lit : Lit) → Contains (clause_at clauses place) lit → Contains lits lit
  pub has : Contains (clause_at clauses place) one

-- the literals of the clause at a place are these
pub record AreAlike (clauses : List (List Lit)) (place : ℕ) (lits : List Lit) : Type 0 where
  pub known : place < length clauses
  pub each : (lit : Lit) → Contains (clause_at clauses place) lit → Contains lits lit
  pub all : (lit : Lit) → Contains lits lit → Contains (clause_at clauses place) lit

-- the axioms of the first rows, so many, stand at their places
abbrev pub AreTops : RowList → List (List Lit) → ℕ → Type 0
AreTops l clauses n = (row : ℕ) → row < n → StandsAt (IsClause (literals_of l) (length l.tops.items) row) clauses
    (slice_index_or l.top_places.items row 0)

abbrev pub AreLasts : RowList → List (List Lit) → ℕ → Type 0
AreLasts l clauses n = (row : ℕ) → row < n → StandsAt (IsLast (literals_of l) row) clauses
    (slice_index_or l.last_places.items row 0)

-- the steps that say of a row that one is after it stand at their places, of the rows below a bound that are not kept
abbrev pub AreUnits : RowList → List (List Lit) → ℕ → Type 0
AreUnits l clauses n = (row : ℕ) → l.kept ≤ row → row < n → StandsAt (IsUnit (literals_of l) row (later_of l row)) clauses
    (later_place_of l row)

-- those on three rows: where the last is below a bound; where it is this, and the second below one; where these are both this,
-- and the first is below one
abbrev pub ThreesBelow : RowList → List (List Lit) → ℕ → Type 0
ThreesBelow l clauses n = (first second third : ℕ) → first < third → second < third → third < n → first ≢ second
    → StandsAt (IsThree (literals_of l) first second third) clauses (three_of l first second third)

abbrev pub ThreesOf : RowList → List (List Lit) → ℕ → ℕ → Type 0
ThreesOf l clauses third n = (first second : ℕ) → first < third → second < n → first ≢ second
    → StandsAt (IsThree (literals_of l) first second third) clauses (three_of l first second third)

abbrev pub ThreesAt : RowList → List (List Lit) → ℕ → ℕ → ℕ → Type 0
ThreesAt l clauses second third n = (first : ℕ) → first < n → first ≢ second
    → StandsAt (IsThree (literals_of l) first second third) clauses (three_of l first second third)
