-- The least set of cells of squares that has given cells, what clauses conclude of it, and where two of its cells meet the
-- cell from end to end.
use Rattle.std.specs.Prelude.{◌≡◌, ◌<◌, ◌+◌, ◌*◌, ◌^◌, ℕ, List, take, length, All, Contains, Some, slice_get}
use Rattle.std.specs.List.{sum_by}
use Rattle.horn_closure.specs.declared.derived.Derived.{Derived}
use Rattle.horn_closure.specs.declared.derived.Why.{Why}
use Rattle.horn_closure.specs.declared.derived.Why.TheVariants.{Fact, Joined, Clause}

-- squares by their sizes; cells that are given; and clauses, each with the cells of its premises and that of its conclusion.
-- Cells are told by their slots: squares stand one after another, each row by row
pub record Horn : Type 0 where
  pub sizes : List ℕ
  pub facts : List ℕ
  pub premises : List (List ℕ)
  pub conclusions : List ℕ

-- how many cells the squares before one have
abbrev pub base_of : List ℕ → ℕ → ℕ
base_of sizes square = sum_by (λ n. n * n) (take square sizes)

-- how many cells there are
abbrev pub cells_of : List ℕ → ℕ
cells_of sizes = sum_by (λ n. n * n) sizes

-- a slot is that of the cell of a square in this row and column
pub record IsCell (sizes : List ℕ) (square row column slot : ℕ) : Type 0 where
  pub size : ℕ
  pub is_size : slice_get sizes square ≡ Some size
  pub row_in : row < size
  pub column_in : column < size
  pub slot_is : slot ≡ base_of sizes square + row * size + column

-- two cells of a square meet: the column of the first is the row of the second; and a third goes from end to end
pub record Meet (sizes : List ℕ) (first second third : ℕ) : Type 0 where
  pub square : ℕ
  pub row : ℕ
  pub middle : ℕ
  pub column : ℕ
  pub first_is : IsCell sizes square row middle first
  pub second_is : IsCell sizes square middle column second
  pub third_is : IsCell sizes square row column third

-- the least set
pub data IsLeast (h : Horn) : ℕ → Type 0 where
  fact : (slot : ℕ) → Contains h.facts slot → IsLeast h slot
  joined : (first second third : ℕ) → Meet h.sizes first second third → IsLeast h first → IsLeast h second → IsLeast h third
  clause : (k : ℕ) (premises : List ℕ) (conclusion : ℕ) → slice_get h.premises k ≡ Some premises
      → slice_get h.conclusions k ≡ Some conclusion → ((slot : ℕ) → Contains premises slot → IsLeast h slot)
      → IsLeast h conclusion

-- each slot is a cell's, each clause has a conclusion, and there are fewer cells and clauses than numbers
pub record IsHorn (h : Horn) : Type 0 where
  pub facts : All (λ slot. slot < cells_of h.sizes) h.facts
  pub premises : All (All (λ slot. slot < cells_of h.sizes)) h.premises
  pub conclusions : All (λ slot. slot < cells_of h.sizes) h.conclusions
  pub one_each : length h.premises ≡ length h.conclusions
  pub few_cells : cells_of h.sizes < 2 ^ 32
  pub few_clauses : length h.premises < 2 ^ 32

-- ---- derivations

-- a cell is one of those that were derived
pub record IsAmong (derived : List Derived) (slot : ℕ) : Type 0 where
  pub one : Derived
  pub is_in : Contains derived one
  pub slot_is : one.slot ≡ slot

-- two cells that were derived meet in it
pub record IsJoined (h : Horn) (earlier : List Derived) (slot first second : ℕ) : Type 0 where
  pub one : Derived
  pub other : Derived
  pub is_one : slice_get earlier first ≡ Some one
  pub is_other : slice_get earlier second ≡ Some other
  pub meet : Meet h.sizes one.slot other.slot slot

-- a clause concludes it, whose premises were derived
pub record IsConcluded (h : Horn) (earlier : List Derived) (slot k : ℕ) : Type 0 where
  pub premises : List ℕ
  pub is_clause : slice_get h.premises k ≡ Some premises
  pub concludes : slice_get h.conclusions k ≡ Some slot
  pub derived : (premise : ℕ) → Contains premises premise → IsAmong earlier premise

-- a cell is derived as it says, from cells that stand before
abbrev pub IsDerived : Horn → List Derived → Derived → Type 0
IsDerived h earlier d = by d.why
  where
    by : Why → Type 0
    by Fact = Contains h.facts d.slot
    by (Joined first second) = IsJoined h earlier d.slot first second
    by (Clause k) = IsConcluded h earlier d.slot k

-- exactly the cells of the least set, each once, and each derived from cells that stand before it
pub record AreLeast (h : Horn) (derived : List Derived) : Type 0 where
  pub each : (place : ℕ) (d : Derived) → slice_get derived place ≡ Some d → IsDerived h (take place derived) d
  pub all : (slot : ℕ) → IsLeast h slot → IsAmong derived slot
  pub once : (i j : ℕ) (c d : Derived) → slice_get derived i ≡ Some c → slice_get derived j ≡ Some d → c.slot ≡ d.slot → i ≡ j
