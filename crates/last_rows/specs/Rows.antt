-- That some row of a list is last, and some value current, as clauses that follow from axioms step by step.
use Rattle.std.specs.Prelude.{◌≡◌, ◌≢◌, ◌⊎◌, ◌<◌, ◌≤◌, ◌+◌, ◌*◌, ◌==◌, nat_lt, if◌then◌else◌, ℕ, zero, suc, List, [], ◌∷◌, ◌++◌, Contains, Some, false, length, take, slice_get, slice_index_or}
use Rattle.currency_base.specs.Lists.{OnlyOnce}
use Rattle.currency_base.specs.Literals.{var_of, negation}
use Rattle.currency_base.specs.declared.lit.Lit.{Lit}
use Rattle.refutation_log.specs.Follows.{FollowsFrom, clause_at}
use Rattle.refutation_log.specs.Steps.{clauses_of}
use Rattle.refutation_log.specs.declared.step.Step.{Step}
use Rattle.refutation_log.specs.declared.step.Step.TheVariants.{Learn}
use Rattle.lean_hints.specs.Lean.{AreLean}
use Rattle.last_rows.specs.declared.rows.RowList.{RowList}

-- ---- literals

-- of the rows of a list, which are numbered from 0: how many they are, and the literals that say that one stands last, that
-- one stands before another, and that the value of one is current
pub record Literals : Type 0 where
  pub count : ℕ
  pub top : ℕ → Lit
  pub before : ℕ → ℕ → Lit
  pub name : ℕ → Lit

-- a literal for what no place says
abbrev pub no_lit : Lit
no_lit = record { 0 = 0 }

-- those of a list of rows
abbrev pub literals_of : RowList → Literals
literals_of l = record {
  count = length l.tops.items;
  top = λ i. slice_index_or l.tops.items i no_lit;
  before = λ i j. slice_index_or (slice_index_or l.befores i []) j no_lit;
  name = λ i. slice_index_or l.names.items i no_lit;
}

-- different statements have different variables, and the negation of a row's being before another is the other's being before it
pub record AreApart (l : Literals) : Type 0 where
  pub turned : (i j : ℕ) → i < l.count → j < l.count → i ≢ j → negation (l.before i j) ≡ l.before j i
  pub before_once : (i j a b : ℕ) → i < l.count → j < l.count → a < l.count → b < l.count → i ≢ j → a ≢ b
      → l.before i j ≡ l.before a b → (i ≡ a) × (j ≡ b)
  pub top_once : (i j : ℕ) → i < l.count → j < l.count → l.top i ≡ l.top j → i ≡ j
  pub top_before : (m i j : ℕ) → m < l.count → i < l.count → j < l.count → i ≢ j → l.top m ≡ l.before i j → ⊥
  pub twice : (i : ℕ) → i < l.count → negation (negation (l.top i)) ≡ l.top i
  pub not_top : (i m : ℕ) → i < l.count → m < l.count → negation (l.top i) ≡ l.top m → ⊥
  pub top_name : (i m : ℕ) → i < l.count → m < l.count → l.top i ≡ l.name m → ⊥
  pub not_name : (i m : ℕ) → i < l.count → m < l.count → negation (l.top i) ≡ l.name m → ⊥

-- they are of so many variables
pub record AreWithin (vars : ℕ) (l : Literals) : Type 0 where
  pub tops : (i : ℕ) → i < l.count → var_of (l.top i) < vars
  pub befores : (i j : ℕ) → i < l.count → j < l.count → i ≢ j → var_of (l.before i j) < vars
  pub names : (i : ℕ) → i < l.count → var_of (l.name i) < vars

-- ---- clauses

-- the items at the numbers below a bound, in order
unfoldable pub each_below : {A : Type 0} → (ℕ → A) → ℕ → List A
each_below f zero = []
each_below f (suc n) = each_below f n ++ f n ∷ []

-- of the clause that, of the first rows, so many, one stands before another, which is one of them, or this stands last, or a row
-- behind them does: the literal for each row
abbrev pub lit_of : Literals → ℕ → ℕ → ℕ → Lit
lit_of l first own row = if row == own then l.top row else if nat_lt row first then l.before own row else l.top row

-- its literals
abbrev pub clause_lits : Literals → ℕ → ℕ → List Lit
clause_lits l first own = each_below (lit_of l first own) l.count

-- a literal is one of it
pub record IsLitOf (l : Literals) (first own : ℕ) (lit : Lit) : Type 0 where
  pub row : ℕ
  pub within : row < l.count
  pub is_lit : lit ≡ lit_of l first own row

-- these are its literals, in some order
pub record IsClause (l : Literals) (first own : ℕ) (lits : List Lit) : Type 0 where
  pub each : (lit : Lit) → Contains lits lit → IsLitOf l first own lit
  pub all : (row : ℕ) → row < l.count → Contains lits (lit_of l first own row)

-- the clause that a row stands before the third where it stands before the second, and that before the third
pub record IsThree (l : Literals) (first second third : ℕ) (lits : List Lit) : Type 0 where
  pub each : (lit : Lit) → Contains lits lit → (lit ≡ l.before second first) ⊎ ((lit ≡ l.before third second) ⊎ (lit ≡
      l.before first third))
  pub has : Contains lits (l.before first third)
  pub has_next : Contains lits (l.before third second)

-- the clause that a row stands before another
pub record IsUnit (l : Literals) (row other : ℕ) (lits : List Lit) : Type 0 where
  pub each : (lit : Lit) → Contains lits lit → lit ≡ l.before row other
  pub has : Contains lits (l.before row other)

-- the clause that the value of a row is current where the row stands last
pub record IsLast (l : Literals) (row : ℕ) (lits : List Lit) : Type 0 where
  pub each : (lit : Lit) → Contains lits lit → (lit ≡ negation (l.top row)) ⊎ (lit ≡ l.name row)
  pub has : Contains lits (negation (l.top row))

-- the clause that the value of some row is current
pub record IsSomeCurrent (l : Literals) (lits : List Lit) : Type 0 where
  pub each : (lit : Lit) → Contains lits lit → (row : ℕ) × (row < l.count) × (lit ≡ l.name row)
  pub all : (row : ℕ) → row < l.count → Contains lits (l.name row)

-- ---- where they stand

-- the clause that stands at a place is there and such
pub record StandsAt (P : List Lit → Type 0) (clauses : List (List Lit)) (place : ℕ) : Type 0 where
  pub known : place < length clauses
  pub is : P (clause_at clauses place)

-- the number of a row in the order in which the axioms on three rows stand
abbrev pub number_of : RowList → ℕ → ℕ
number_of l row = slice_index_or l.numbers.items row 0

-- the place of the axiom on three rows that have these numbers, of which the third is the greatest
abbrev pub three_at : RowList → ℕ → ℕ → ℕ → ℕ
three_at l first second third =
    if nat_lt first second then
    slice_index_or l.thirds.items third 0 + slice_index_or l.seconds.items second 0 + 2 * first
    else slice_index_or l.thirds.items third 0 + slice_index_or l.seconds.items first 0 + 2 * second + 1

-- the place of the axiom on three rows, which is the same from whichever of them on they are named: they are taken from that on
-- from which the one with the greatest number comes third
abbrev pub three_of : RowList → ℕ → ℕ → ℕ → ℕ
three_of l first second third =
    if nat_lt (number_of l first) (number_of l third) then
    (if nat_lt (number_of l second) (number_of l third) then
    three_at l (number_of l first) (number_of l second) (number_of l third)
    else three_at l (number_of l third) (number_of l first) (number_of l second))
    else (if nat_lt (number_of l second) (number_of l first) then
    three_at l (number_of l second) (number_of l third) (number_of l first)
    else three_at l (number_of l third) (number_of l first) (number_of l second))

-- a row that is known to stand after this, and the place of the step that says so
abbrev pub later_of : RowList → ℕ → ℕ
later_of l row = slice_index_or l.laters.items row 0

abbrev pub later_place_of : RowList → ℕ → ℕ
later_place_of l row = slice_index_or l.later_places.items row 0

-- the axioms on the rows stand among these clauses at the places that are said
pub record AreThere (l : RowList) (clauses : List (List Lit)) : Type 0 where
  pub as_many : length l.top_places.items ≡ length l.tops.items
  pub as_many_lasts : length l.last_places.items ≡ length l.tops.items
  pub tops : (row : ℕ) → row < length l.tops.items
      → StandsAt (IsClause (literals_of l) (length l.tops.items) row) clauses (slice_index_or l.top_places.items row 0)
  pub lasts : (row : ℕ) → row < length l.tops.items → StandsAt (IsLast (literals_of l) row) clauses
      (slice_index_or l.last_places.items row 0)
  pub threes : (first second third : ℕ) → first < third → second < third → third < length l.tops.items → first ≢ second
      → StandsAt (IsThree (literals_of l) first second third) clauses (three_of l first second third)
  pub units : (row : ℕ) → l.kept ≤ row → row < length l.tops.items
      → StandsAt (IsUnit (literals_of l) row (later_of l row)) clauses (later_place_of l row)

-- there are as many literals of each kind as rows, and each row has a number
pub record IsSquare (l : RowList) : Type 0 where
  pub names : length l.names.items ≡ length l.tops.items
  pub befores : length l.befores ≡ length l.tops.items
  pub each : (row : ℕ) → row < length l.tops.items → length (slice_index_or l.befores row []) ≡ length l.tops.items
  pub thirds : length l.thirds.items ≡ length l.tops.items
  pub seconds : length l.seconds.items ≡ length l.tops.items
  pub numbers : length l.numbers.items ≡ length l.tops.items
  pub each_number : (row : ℕ) → row < length l.tops.items → number_of l row < length l.tops.items

-- some rows are kept, and of each other one a row with a smaller place is named, as known to stand after it
pub record AreLaters (l : RowList) : Type 0 where
  pub some : 0 < l.kept
  pub kept : l.kept ≤ length l.tops.items
  pub laters : length l.laters.items ≡ length l.tops.items
  pub places : length l.later_places.items ≡ length l.tops.items
  pub low : (row : ℕ) → l.kept ≤ row → row < length l.tops.items → later_of l row < row

-- all this of a list of rows, over clauses that are not too many to be numbered
pub record IsPlaced (l : RowList) (clauses : List (List Lit)) : Type 0 where
  pub square : IsSquare l
  pub laters : AreLaters l
  pub few_rows : length l.tops.items ≤ 65536
  pub few : length clauses ≤ 4294967296
  pub there : AreThere l clauses

-- ---- steps

-- the clause of some row that of the first rows, so many, one stands behind it, or that it stands last, or a row behind them does
pub record IsRowClause (l : Literals) (lits : List Lit) : Type 0 where
  pub first : ℕ
  pub own : ℕ
  pub own_within : own < l.count
  pub is : IsClause l first own lits

-- a clause that is derived of the rows: that of some row, or that some value is current
abbrev pub IsOfRows : Literals → List Lit → Type 0
IsOfRows l lits = IsRowClause l lits ⊎ IsSomeCurrent l lits

-- a step that is not counted, whose clause is one that is derived of the rows and follows with its hints, where no literal stands
-- twice; no hint does, and each but the last adds a literal; its variables are those of the rows' literals
pub record IsDerivedStep (l : Literals) (earlier : List (List Lit)) (taken : Step) : Type 0 where
  pub lits : List Lit
  pub hints : List ℕ
  pub is_step : taken ≡ Learn lits hints false
  pub of_rows : IsOfRows l lits
  pub within : (vars : ℕ) → AreWithin vars l → (lit : Lit) → Contains lits lit → var_of lit < vars
  pub once : OnlyOnce lits
  pub follows : FollowsFrom earlier lits hints
  pub lean : AreLean earlier lits hints

-- each follows from the clauses and the steps before it
abbrev pub AreDerived : Literals → List (List Lit) → List Step → Type 0
AreDerived l earlier steps = (place : ℕ) (taken : Step) → slice_get steps place ≡ Some taken
    → IsDerivedStep l (earlier ++ clauses_of (take place steps)) taken

-- the last step says that some value is current; and that some row stands last is one of the clauses before it
pub record EndsCurrent (l : Literals) (earlier : List (List Lit)) (steps : List Step) : Type 0 where
  pub front : List Step
  pub lits : List Lit
  pub hints : List ℕ
  pub steps_are : steps ≡ front ++ Learn lits hints false ∷ []
  pub current : IsSomeCurrent l lits
  pub place : ℕ
  pub last : StandsAt (IsClause l 1 0) (earlier ++ clauses_of front) place
