-- What becomes of the answers that lie in parts where a match is one more.
use Rattle.std.specs.Prelude.{◌≡◌, ◌≢◌, ◌<◌, ◌⊎◌, ◌↔◌, ℕ, true, List, Contains, Option, Some, length, slice_get, slice_set}
use Rattle.entity_ties.specs.Parts.{Puts, list_at}
use Rattle.known_models.specs.Known.{IsKnown}
use Rattle.order_search.specs.Parts.{parted_of}
use Rattle.order_search.specs.Searches.{Subject}
use Rattle.order_search.specs.Tied.{AreMembers}
use Rattle.order_search.specs.declared.parting.Parting.{Parting}
use Rattle.order_search.specs.declared.parting.Tie.TheVariants as tie

-- parts and what is known of them stay
pub record HasKnown (old new : Parting) : Type 0 where
  pub parts : new.parts ≡ old.parts
  pub known : new.known ≡ old.known

-- an answer lies in this part from now on
pub record Joins (answer var part : ℕ) (old new : Parting) : Type 0 where
  pub same : HasKnown old new
  pub members : Puts part var old.members new.members
  pub ties : new.ties ≡ slice_set old.ties answer (tie.In part)

-- or in the one that is told
pub record Joined (answer var : ℕ) (home : Option ℕ) (old new : Parting) : Type 0 where
  pub part : ℕ
  pub is_home : home ≡ Some part
  pub within : part < length old.members
  pub joins : Joins answer var part old new

-- one that lay in none lies in none from now on
pub record StaysOut (answer : ℕ) (old new : Parting) : Type 0 where
  pub same : HasKnown old new
  pub members : new.members ≡ old.members
  pub ties : new.ties ≡ slice_set old.ties answer tie.Across

-- an item is no longer in the list at a place
pub record Drops (place item : ℕ) (old new : List (List ℕ)) : Type 0 where
  pub many : length new ≡ length old
  pub kept : (at x : ℕ) → x ≢ item → Contains (list_at old at) x → Contains (list_at new at) x
  pub only : (at x : ℕ) → Contains (list_at new at) x → Contains (list_at old at) x
  pub gone : Contains (list_at new place) item → ⊥

-- one that lay in this part lies in none from now on
pub record Leaves (answer var part : ℕ) (old new : Parting) : Type 0 where
  pub same : HasKnown old new
  pub members : Drops part var old.members new.members
  pub ties : new.ties ≡ slice_set old.ties answer tie.Across

-- these items are those of a list but for one
abbrev pub IsWithout : ℕ → List ℕ → List ℕ → Type 0
IsWithout item list kept = (x : ℕ) → Contains kept x ↔ (Contains list x × x ≢ item)

-- a number came to others, unless it is the one that is left out
abbrev pub Keeps : ℕ → ℕ → List ℕ → List ℕ → Type 0
Keeps item other old new = (x : ℕ) → Contains new x ↔ (Contains old x ⊎ ((other ≡ x) × x ≢ item))

-- the answer's matches, one more among them, lie in a part only if that one does
pub record IsMoved (s : Subject) (answer var : ℕ) (home : Option ℕ) (old new : Parting) : Type 0 where
  pub same : HasKnown old new
  pub members : AreMembers s new
  pub others : (part other : ℕ) → (other ≡ var → ⊥)
      → Contains (list_at old.members part) other ↔ Contains (list_at new.members part) other
  pub own : (part : ℕ) → Contains (list_at new.members part) var → home ≡ Some part
  pub first : slice_get old.ties answer ≡ Some tie.Loose ⊎ ((part : ℕ) → Contains (list_at new.members part) var
      → Contains (list_at old.members part) var)
  pub loose : (other : ℕ) → slice_get new.ties other ≡ Some tie.Loose → slice_get old.ties other ≡ Some tie.Loose
  pub no_more : slice_get new.ties answer ≡ Some tie.Loose → ⊥

-- and it is true by what is known
pub record IsTiedTo (s : Subject) (answer var : ℕ) (home : Option ℕ) (old new : Parting) : Type 0 where
  pub moved : Parting
  pub is_moved : IsMoved s answer var home old moved
  pub parts : new.parts ≡ moved.parts
  pub members : new.members ≡ moved.members
  pub ties : new.ties ≡ moved.ties
  pub known : IsKnown (parted_of s new.parts) new.known
  pub truths : new.known.truths ≡ slice_set old.known.truths var true
  pub done : new.known.done ≡ old.known.done
