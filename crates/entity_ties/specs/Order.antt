-- Labels that count in the order in which they come first.
use Rattle.std.specs.Prelude.{◌≡◌, ◌<◌, ◌+◌, ◌⊎◌, ◌↔◌, ℕ, List, Option, Some, None, length, slice_get, slice_set, slice_index_or}

-- labels that are equal where the old ones are, and count from 0 on in the order in which they come first
pub record AreInOrder (old new : List ℕ) (count : ℕ) : Type 0 where
  pub many : length new ≡ length old
  pub same : (a b : ℕ) → a < length old → b < length old → (slice_get new a ≡ slice_get new b) ↔
      (slice_get old a ≡ slice_get old b)
  pub below : (a n : ℕ) → slice_get new a ≡ Some n → n < count
  pub used : (n : ℕ) → n < count → (a : ℕ) × (slice_get new a ≡ Some n)
  pub first : (n m b : ℕ) → n < m → slice_get new b ≡ Some m → (a : ℕ) × (a < b) × (slice_get new a ≡ Some n)

-- the new label of a label, if it has one
abbrev pub name_at : List (Option ℕ) → ℕ → Option ℕ
name_at names label = slice_index_or names label None

-- a label had this new label
pub record WasNamed (old new : List (Option ℕ)) (count next label name : ℕ) : Type 0 where
  pub had : name_at old label ≡ Some name
  pub as_before : new ≡ old
  pub as_many : next ≡ count

-- a label got the next new label
pub record GotName (old new : List (Option ℕ)) (count next label name : ℕ) : Type 0 where
  pub had_none : name_at old label ≡ None
  pub is_next : name ≡ count
  pub put : new ≡ slice_set old label (Some count)
  pub one_more : next ≡ count + 1

-- either of both
pub record IsNamed (old new : List (Option ℕ)) (count next label name : ℕ) : Type 0 where
  pub either : WasNamed old new count next label name ⊎ GotName old new count next label name
