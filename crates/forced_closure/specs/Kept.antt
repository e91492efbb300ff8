-- Derivations told as forced pairs, and what is kept to answer quickly.
use Rattle.std.specs.Prelude.{◌≡◌, ◌↔◌, ◌<◌, ◌≤◌, ℕ, Bool, true, false, List, Some, length, slice_get, slice_index_or}
use Rattle.currency_base.specs.declared.ids.RowId.{RowId}
use Rattle.horn_closure.specs.Least.{IsAmong, cells_of}
use Rattle.horn_closure.specs.declared.derived.Derived.{Derived}
use Rattle.horn_closure.specs.declared.derived.Why.{Why}
use Rattle.horn_closure.specs.declared.derived.Why.TheVariants as cell
use Rattle.order_squares.specs.Squares.{Layout, IsSlot}
use Rattle.forced_closure.specs.Forced.{IsForced, HasLoop}
use Rattle.forced_closure.specs.Clauses.{Subject}
use Rattle.forced_closure.specs.Derived.{Closed, AreForced}
use Rattle.forced_closure.specs.declared.forced.Forced.{Forced}
use Rattle.forced_closure.specs.declared.forced.Why as forced
use Rattle.forced_closure.specs.declared.forced.Why.TheVariants as why
use Rattle.forced_closure.specs.declared.origin.Origin.{Origin}
use Rattle.forced_closure.specs.declared.origin.Origin.TheVariants as origin

-- a ground of a rule, of few rows
pub record IsGroundAt (rules : List (List (List RowId))) (k ground : ℕ) : Type 0 where
  pub grounds : List (List RowId)
  pub are_grounds : slice_get rules k ≡ Some grounds
  pub rows : List RowId
  pub are_rows : slice_get grounds ground ≡ Some rows
  pub few_rows : length rows ≤ 4

-- the ground of an origin is there
abbrev pub IsThere : List (List (List RowId)) → Origin → Type 0
IsThere rules (origin.Rule rule ground) = IsGroundAt rules rule.0 ground
IsThere rules (origin.Copy copy place first second) = Unit {0}
IsThere rules (origin.Back copy place first second) = Unit {0}

-- the clause of a derivation is there
pub record HasOrigin (rules : List (List (List RowId))) (origins : List Origin) (k : ℕ) : Type 0 where
  pub from : Origin
  pub is_from : slice_get origins k ≡ Some from
  pub is_there : IsThere rules from

abbrev pub IsTellable : List (List (List RowId)) → List Origin → Why → Type 0
IsTellable rules origins cell.Fact = Unit {0}
IsTellable rules origins (cell.Joined first second) = Unit {0}
IsTellable rules origins (cell.Clause k) = HasOrigin rules origins k

-- each cell has a slot, and its derivation's clause is there
pub record AreTellable (m : Subject) (origins : List Origin) (derived : List Derived) : Type 0 where
  pub slots : (i : ℕ) (d : Derived) → slice_get derived i ≡ Some d → d.slot < cells_of m.layout.sizes
  pub whys : (i : ℕ) (d : Derived) → slice_get derived i ≡ Some d → IsTellable m.rules origins d.why

-- it tells a ground of a rule
pub record TellsRule (rules : List (List (List RowId))) (k ground : ℕ) (rows : List RowId) : Type 0 where
  pub grounds : List (List RowId)
  pub are_grounds : slice_get rules k ≡ Some grounds
  pub are_rows : slice_get grounds ground ≡ Some rows

-- how a pair was derived, by what a clause was made of
abbrev pub IsWhyOf : List (List (List RowId)) → Origin → forced.Why → Type 0
IsWhyOf rules (origin.Rule rule ground) w = (rows : List RowId) × (w ≡ why.Rule rule rows) × TellsRule rules rule.0 ground rows
IsWhyOf rules (origin.Copy copy place first second) w = w ≡ why.Copy copy place first second
IsWhyOf rules (origin.Back copy place first second) w = w ≡ why.Back copy place first second

-- what a clause was made of tells how a pair was derived
pub record IsWhyAt (rules : List (List (List RowId))) (origins : List Origin) (k : ℕ) (w : forced.Why) : Type 0 where
  pub from : Origin
  pub is_from : slice_get origins k ≡ Some from
  pub tells : IsWhyOf rules from w

-- how a pair was derived, by how its cell was
abbrev pub IsWhy : List (List (List RowId)) → List Origin → Why → forced.Why → Type 0
IsWhy rules origins cell.Fact w = w ≡ why.Given
IsWhy rules origins (cell.Joined first second) w = w ≡ why.Transitive first second
IsWhy rules origins (cell.Clause k) w = IsWhyAt rules origins k w

-- a cell is told as a forced pair
pub record IsPairOfCell (m : Subject) (origins : List Origin) (d : Derived) (f : Forced) : Type 0 where
  pub is_slot : IsSlot m.layout f.rel.0 f.pair.attr.0 f.pair.earlier f.pair.later d.slot
  pub why_is : IsWhy m.rules origins d.why f.why

-- the first cells are told, each at its place
pub record ArePairsOfCells (m : Subject) (origins : List Origin) (derived : List Derived) (pairs : List Forced) (count : ℕ) : Type 0 where
  pub many : length pairs ≡ count
  pub each : (i : ℕ) (d : Derived) (f : Forced) → slice_get derived i ≡ Some d → slice_get pairs i ≡ Some f
      → IsPairOfCell m origins d f

-- ---- what is kept

-- which slots were derived
pub record IsTable (cells : ℕ) (derived : List Derived) (table : List Bool) : Type 0 where
  pub many : length table ≡ cells
  pub each : (slot : ℕ) → slot < cells → (slice_index_or table slot false ≡ true) ↔ IsAmong derived slot

-- some pair is of one row twice
pub record HasLoopIn (pairs : List Forced) : Type 0 where
  pub place : ℕ
  pub pair : Forced
  pub is_pair : slice_get pairs place ≡ Some pair
  pub same : pair.pair.earlier ≡ pair.pair.later

-- a pair has a slot
pub record IsPlaced (l : Layout) (rel attr : ℕ) (earlier later : RowId) : Type 0 where
  pub slot : ℕ
  pub is_slot : IsSlot l rel attr earlier later slot

-- the forced pairs of a specification, a table of their slots, and whether there is a loop
pub record IsClosure (c : Closed) (l : Layout) (table : List Bool) (loops : Bool) : Type 0 where
  pub forced : AreForced c
  pub relations : l.relations ≡ c.spec.relations
  pub within : (rel attr : ℕ) (earlier later : RowId) (slot : ℕ) → IsSlot l rel attr earlier later slot → slot < length table
  pub marked : (rel attr : ℕ) (earlier later : RowId) (slot : ℕ) → IsSlot l rel attr earlier later slot
      → (slice_index_or table slot false ≡ true) ↔ IsForced c.spec rel attr earlier later
  pub placed : (rel attr : ℕ) (earlier later : RowId) → IsForced c.spec rel attr earlier later → IsPlaced l rel attr earlier later
  pub loops_are : (loops ≡ true) ↔ HasLoop c.spec
