-- Steps: what each step towards the least set does, for the clauses of private functions.
use Rattle.std.specs.Prelude.{◌≡◌, ◌<◌, ◌≤◌, ◌+◌, ◌*◌, ◌^◌, ◌++◌, ℕ, List, [], take, length, All, Contains, Some, slice_get, slice_index}
use Rattle.horn_closure.specs.Least.{Horn, Meet, IsAmong, IsDerived, base_of, cells_of}
use Rattle.horn_closure.specs.declared.derived.Derived.{Derived}
use Rattle.horn_closure.specs.declared.derived.Why.{Why}
use Rattle.horn_closure.specs.declared.squares.Cell.{Cell}
use Rattle.horn_closure.specs.declared.uses.Use.{Use}

-- ---- what was derived

-- how many cells there are, and those that were derived, in order
pub record Derivation : Type 0 where
  pub cells : ℕ
  pub derived : List Derived

-- a cell was derived at a place
pub record StandsAt (derived : List Derived) (place slot : ℕ) : Type 0 where
  pub one : Derived
  pub is_one : slice_get derived place ≡ Some one
  pub slot_is : one.slot ≡ slot

-- of each cell one more than its place, or 0
pub record AreKnown (places : List ℕ) (derived : List Derived) : Type 0 where
  pub few : length places < 2 ^ 32
  pub stands : (place : ℕ) (d : Derived) → slice_get derived place ≡ Some d → slice_get places d.slot ≡ Some (place + 1)
  pub found : (slot place : ℕ) → slice_get places slot ≡ Some (place + 1) → StandsAt derived place slot

-- no cell was derived twice
abbrev pub AreOnce : List Derived → Type 0
AreOnce derived = (i j : ℕ) (c d : Derived) → slice_get derived i ≡ Some c → slice_get derived j ≡ Some d
    → c.slot ≡ d.slot → i ≡ j

-- each is derived from those before it
abbrev pub AreDerived : Horn → List Derived → Type 0
AreDerived h derived = (place : ℕ) (d : Derived) → slice_get derived place ≡ Some d → IsDerived h (take place derived) d

-- more may have been derived after
pub record IsLonger (old new : List Derived) : Type 0 where
  pub rest : List Derived
  pub is : new ≡ old ++ rest

-- a cell is among those that were derived, and by this if it was not before
pub record IsAdded (old : List Derived) (slot : ℕ) (why : Why) (new : List Derived) : Type 0 where
  pub longer : IsLonger old new
  pub among : IsAmong new slot
  pub sound : (h : Horn) → IsDerived h old (record { slot = slot; why = why }) → AreDerived h old → AreDerived h new

-- what is given is among those that were derived
pub record AreGiven (facts : List ℕ) (old new : List Derived) : Type 0 where
  pub longer : IsLonger old new
  pub sound : (h : Horn) → ((slot : ℕ) → Contains facts slot → Contains h.facts slot) → AreDerived h old → AreDerived h new
  pub all : (slot : ℕ) → Contains facts slot → IsAmong new slot

-- ---- squares

-- of each square, how many cells there are before it
pub record AreBases (sizes bases : List ℕ) : Type 0 where
  pub one_each : length bases ≡ length sizes
  pub each : (square : ℕ) → square < length sizes → slice_index bases square ≡ base_of sizes square

-- the slot in this row and column of the square of a cell
abbrev pub slot_of : Cell → ℕ → ℕ → ℕ
slot_of cell row column = cell.base + row * cell.size + column

-- a slot is that of a cell of a square of this size that begins here
pub record IsPlaced (base size slot : ℕ) (cell : Cell) : Type 0 where
  pub base_is : cell.base ≡ base
  pub size_is : cell.size ≡ size
  pub row_in : cell.row < cell.size
  pub column_in : cell.column < cell.size
  pub slot_is : slot ≡ slot_of cell cell.row cell.column

-- a slot is that of a cell
pub record IsCellAt (sizes : List ℕ) (cell : Cell) (slot : ℕ) : Type 0 where
  pub square : ℕ
  pub is_size : slice_get sizes square ≡ Some cell.size
  pub base_is : cell.base ≡ base_of sizes square
  pub row_in : cell.row < cell.size
  pub column_in : cell.column < cell.size
  pub slot_is : slot ≡ slot_of cell cell.row cell.column
  pub inside : cell.base + cell.size * cell.size ≤ cells_of sizes

-- a cell's square is within so many cells
pub record Fits (cell : Cell) (cells : ℕ) : Type 0 where
  pub row_in : cell.row < cell.size
  pub column_in : cell.column < cell.size
  pub inside : cell.base + cell.size * cell.size ≤ cells
  pub few : cells < 2 ^ 32

-- what goes on from a cell at a place into another column is among those that were derived
pub record IsJoinedAhead (cell : Cell) (place other : ℕ) (old new : List Derived) : Type 0 where
  pub longer : IsLonger old new
  pub sound : (h : Horn) (slot : ℕ) → IsCellAt h.sizes cell slot → StandsAt old place slot → AreDerived h old → AreDerived h new
  pub ahead : IsAmong old (slot_of cell cell.column other) → IsAmong new (slot_of cell cell.row other)

-- what comes to a cell at a place from another row is among those that were derived
pub record IsJoinedBehind (cell : Cell) (place other : ℕ) (old new : List Derived) : Type 0 where
  pub longer : IsLonger old new
  pub sound : (h : Horn) (slot : ℕ) → IsCellAt h.sizes cell slot → StandsAt old place slot → AreDerived h old → AreDerived h new
  pub behind : IsAmong old (slot_of cell other cell.row) → IsAmong new (slot_of cell other cell.column)

-- both, for the first so many columns and rows
pub record AreJoined (cell : Cell) (place upto : ℕ) (old new : List Derived) : Type 0 where
  pub longer : IsLonger old new
  pub sound : (h : Horn) (slot : ℕ) → IsCellAt h.sizes cell slot → StandsAt old place slot → AreDerived h old → AreDerived h new
  pub ahead : (other : ℕ) → other < upto → IsAmong old (slot_of cell cell.column other) → IsAmong new
      (slot_of cell cell.row other)
  pub behind : (other : ℕ) → other < upto → IsAmong old (slot_of cell other cell.row) → IsAmong new
      (slot_of cell other cell.column)

-- ---- clauses

-- clauses over so many cells
pub record AreClauses (premises : List (List ℕ)) (conclusions : List ℕ) (cells : ℕ) : Type 0 where
  pub premises_in : All (All (λ slot. slot < cells)) premises
  pub conclusions_in : All (λ slot. slot < cells) conclusions
  pub one_each : length premises ≡ length conclusions
  pub few : length premises < 2 ^ 32

-- where the premises of a clause were derived before, its conclusion is among those that were derived
pub record Concludes (premises : List (List ℕ)) (conclusions : List ℕ) (k : ℕ) (before derived : List Derived) : Type 0 where
  pub concludes : (ps : List ℕ) (slot : ℕ) → slice_get premises k ≡ Some ps → slice_get conclusions k ≡ Some slot
      → ((premise : ℕ) → Contains ps premise → IsAmong before premise) → IsAmong derived slot

-- what a clause concludes is among those that were derived
pub record IsLookedAt (premises : List (List ℕ)) (conclusions : List ℕ) (k : ℕ) (old new : List Derived) : Type 0 where
  pub longer : IsLonger old new
  pub sound : (h : Horn) → h.premises ≡ premises → h.conclusions ≡ conclusions → AreDerived h old → AreDerived h new
  pub found : Concludes premises conclusions k old new

-- what the first so many clauses conclude is
pub record AreLookedAt (premises : List (List ℕ)) (conclusions : List ℕ) (upto : ℕ) (old new : List Derived) : Type 0 where
  pub longer : IsLonger old new
  pub sound : (h : Horn) → h.premises ≡ premises → h.conclusions ≡ conclusions → AreDerived h old → AreDerived h new
  pub found : (k : ℕ) → k < upto → Concludes premises conclusions k old new

-- what the clauses with a cell among their premises conclude is
pub record AreUsesLookedAt (premises : List (List ℕ)) (conclusions : List ℕ) (slot : ℕ) (old new : List Derived) : Type 0 where
  pub longer : IsLonger old new
  pub sound : (h : Horn) → h.premises ≡ premises → h.conclusions ≡ conclusions → AreDerived h old → AreDerived h new
  pub found : (k : ℕ) (ps : List ℕ) → slice_get premises k ≡ Some ps → Contains ps slot → Concludes premises conclusions k old new

-- ---- the uses of cells

-- a use by a clause is met on the way from a use back to the first
pub data OnChain (uses : List Use) (k : ℕ) : ℕ → Type 0 where
  here : (at place : ℕ) (one : Use) → at ≡ place + 1 → slice_get uses place ≡ Some one → one.clause ≡ k → OnChain uses k at
  further : (at place : ℕ) (one : Use) → at ≡ place + 1 → slice_get uses place ≡ Some one → OnChain uses k one.before
      → OnChain uses k at

-- a cell is used by a clause
pub record IsUsed (lasts : List ℕ) (uses : List Use) (slot k : ℕ) : Type 0 where
  pub last : ℕ
  pub is_last : slice_get lasts slot ≡ Some last
  pub on : OnChain uses k last

-- uses lead back, and are by some of so many clauses
pub record AreLinked (lasts : List ℕ) (uses : List Use) (clauses : ℕ) : Type 0 where
  pub few : length uses < 2 ^ 32
  pub lasts_in : (slot last : ℕ) → slice_get lasts slot ≡ Some last → last ≤ length uses
  pub befores : (place : ℕ) (one : Use) → slice_get uses place ≡ Some one → one.before ≤ place
  pub by_clauses : (place : ℕ) (one : Use) → slice_get uses place ≡ Some one → one.clause < clauses

-- each premise of the first so many clauses is used by its clause
pub record AreUsesUpTo (premises : List (List ℕ)) (upto : ℕ) (lasts : List ℕ) (uses : List Use) : Type 0 where
  pub linked : AreLinked lasts uses (length premises)
  pub each : (k : ℕ) (ps : List ℕ) (slot : ℕ) → k < upto → slice_get premises k ≡ Some ps → Contains ps slot
      → IsUsed lasts uses slot k

-- each premise of a clause is used by it
pub record AreUses (premises : List (List ℕ)) (lasts : List ℕ) (uses : List Use) : Type 0 where
  pub linked : AreLinked lasts uses (length premises)
  pub each : (k : ℕ) (ps : List ℕ) (slot : ℕ) → slice_get premises k ≡ Some ps → Contains ps slot → IsUsed lasts uses slot k

-- one use more
pub record IsUseAdded (clause slot : ℕ) (lasts : List ℕ) (uses : List Use) (lasts' : List ℕ) (uses' : List Use) : Type 0 where
  pub linked : (n : ℕ) → clause < n → AreLinked lasts uses n → AreLinked lasts' uses' n
  pub kept : (s k : ℕ) → IsUsed lasts uses s k → IsUsed lasts' uses' s k
  pub added : IsUsed lasts' uses' slot clause

-- one use more of each of some cells
pub record IsUseOfEach (clause : ℕ) (slots lasts : List ℕ) (uses : List Use) (lasts' : List ℕ) (uses' : List Use) : Type 0 where
  pub linked : (n : ℕ) → clause < n → AreLinked lasts uses n → AreLinked lasts' uses' n
  pub kept : (s k : ℕ) → IsUsed lasts uses s k → IsUsed lasts' uses' s k
  pub added : (slot : ℕ) → Contains slots slot → IsUsed lasts' uses' slot clause

-- ---- the whole

abbrev pub horn : List ℕ → List ℕ → List (List ℕ) → List ℕ → Horn
horn sizes facts premises conclusions = record { sizes = sizes; facts = facts; premises = premises; conclusions = conclusions }

-- what is made before the first cell is gone over
pub record IsReady (sizes bases : List ℕ) (premises : List (List ℕ)) (conclusions lasts : List ℕ) (uses : List Use)
    (cells : ℕ) : Type 0 where
  pub bases_are : AreBases sizes bases
  pub clauses_are : AreClauses premises conclusions cells
  pub uses_are : AreUses premises lasts uses
  pub lasts_are : length lasts ≡ cells
  pub cells_are : cells ≡ cells_of sizes
  pub few : cells < 2 ^ 32

-- what follows of the cell at a place and of others that were derived is among those that were derived
pub record IsGoneOver (sizes : List ℕ) (premises : List (List ℕ)) (conclusions : List ℕ) (place : ℕ)
    (old new : List Derived) : Type 0 where
  pub longer : IsLonger old new
  pub sound : (facts : List ℕ) → AreDerived (horn sizes facts premises conclusions) old → AreDerived
      (horn sizes facts premises conclusions) new
  pub slot : ℕ
  pub cell : Cell
  pub is_cell : IsCellAt sizes cell slot
  pub stands : StandsAt old place slot
  pub ahead : (other : ℕ) → other < cell.size → IsAmong old (slot_of cell cell.column other) → IsAmong new
      (slot_of cell cell.row other)
  pub behind : (other : ℕ) → other < cell.size → IsAmong old (slot_of cell other cell.row) → IsAmong new
      (slot_of cell other cell.column)
  pub found : (k : ℕ) (ps : List ℕ) → slice_get premises k ≡ Some ps → Contains ps slot → Concludes premises conclusions k old new

-- what follows of some that were derived is among those that were derived
pub record IsClosedOver (sizes : List ℕ) (premises : List (List ℕ)) (conclusions : List ℕ)
    (before derived : List Derived) : Type 0 where
  pub joins : (first second third : ℕ) → Meet sizes first second third → IsAmong before first → IsAmong before second
      → IsAmong derived third
  pub clauses : (k : ℕ) → Concludes premises conclusions k before derived

-- what follows of all is, if what clauses with no premises conclude was
pub record IsClosing (sizes : List ℕ) (premises : List (List ℕ)) (conclusions : List ℕ) (old new : List Derived) : Type 0 where
  pub longer : IsLonger old new
  pub sound : (facts : List ℕ) → AreDerived (horn sizes facts premises conclusions) old → AreDerived
      (horn sizes facts premises conclusions) new
  pub closed : IsClosedOver sizes premises conclusions [] old → IsClosedOver sizes premises conclusions new new
