-- The watch lists of literals, as lists of slots.
--
-- A slot is a watched place of a clause: `2 * clause` is its first, `2 * clause + 1` its second. An
-- owner is a literal, by its number. Each owner has one list of slots, its watch list.
use Rattle.std.specs.Prelude.{◌≡◌, ◌==◌, ◌<◌, ◌≤◌, ◌⊎◌, ℕ, cond, List, [], ◌∷◌, Option, Some, None, slice_set, slice_index_or}

-- how many slots there are, the list of each owner, and for how many more clauses there is room
pub record Links : Type 0 where
  pub slots : ℕ
  pub lists : List (List ℕ)
  pub room : ℕ

-- the list of an owner
abbrev pub list_of : List (List ℕ) → ℕ → List ℕ
list_of lists owner = slice_index_or lists owner []

-- the slot stands in the list
abbrev pub IsIn : ℕ → List ℕ → Type 0
IsIn slot [] = ⊥
IsIn slot (x ∷ xs) = (slot ≡ x) ⊎ IsIn slot xs

-- the slot stands in no owner's list
abbrev pub IsFree : List (List ℕ) → ℕ → Type 0
IsFree lists slot = (owner : ℕ) → IsIn slot (list_of lists owner) → ⊥

-- no slot stands in the list twice
abbrev pub HasNoneTwice : List ℕ → Type 0
HasNoneTwice [] = Unit {0}
HasNoneTwice (x ∷ xs) = (IsIn x xs → ⊥) × HasNoneTwice xs

-- the first slot of a list
abbrev pub head_of : List ℕ → Option ℕ
head_of [] = None
head_of (x ∷ xs) = Some x

-- the slot that follows a slot in a list
unfoldable pub following : ℕ → List ℕ → Option ℕ
following slot [] = None
following slot (x ∷ xs) = cond (slot == x) (head_of xs) (following slot xs)

-- the slot that comes after one in a list; the first, where none comes before
abbrev pub coming_after : Option ℕ → List ℕ → Option ℕ
coming_after None xs = head_of xs
coming_after (Some before) xs = following before xs

-- the list without a slot
unfoldable pub without : ℕ → List ℕ → List ℕ
without slot [] = []
without slot (x ∷ xs) = cond (slot == x) xs (x ∷ without slot xs)

-- the lists with a slot in front of an owner's
abbrev pub lists_with : List (List ℕ) → ℕ → ℕ → List (List ℕ)
lists_with lists owner slot = slice_set lists owner (slot ∷ list_of lists owner)

-- the lists with a slot taken off an owner's
abbrev pub lists_without : List (List ℕ) → ℕ → ℕ → List (List ℕ)
lists_without lists owner slot = slice_set lists owner (without slot (list_of lists owner))

-- the slots of a list from a slot on; none where there is no slot
unfoldable pub rest_from : Option ℕ → List ℕ → List ℕ
rest_from None xs = []
rest_from (Some slot) [] = []
rest_from (Some slot) (x ∷ xs) = cond (slot == x) (x ∷ xs) (rest_from (Some slot) xs)

-- what is true of all watch lists at any moment: each slot stands in one list at most, and there once
pub record AreWhole (links : Links) : Type 0 where
  pub once : (owner : ℕ) → HasNoneTwice (list_of links.lists owner)
  pub within : (owner slot : ℕ) → IsIn slot (list_of links.lists owner) → slot < links.slots
  pub apart : (owner other slot : ℕ) → IsIn slot (list_of links.lists owner) → IsIn slot (list_of links.lists other)
      → owner ≡ other
  pub few : links.slots ≤ 4294967295
