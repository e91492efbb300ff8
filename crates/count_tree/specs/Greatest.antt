-- Counts of numbers from 0 on, of which some are present, and the present number with the greatest count.
use Rattle.std.specs.Prelude.{◌≡◌, ◌⊎◌, ◌<◌, ◌≤◌, ℕ, Bool, true, List, Some, slice_get, slice_index_or}

-- the count of each number, and whether it is present
pub record Counts : Type 0 where
  pub counts : List ℕ
  pub present : List Bool

-- the count of a number
abbrev pub count_of : Counts → ℕ → ℕ
count_of c number = slice_index_or c.counts number 0

-- of two numbers the first comes before the second: it has the greater count, or the same one and is no greater itself
abbrev pub ComesFirst : Counts → ℕ → ℕ → Type 0
ComesFirst c number other = (count_of c other < count_of c number) ⊎ ((count_of c number ≡ count_of c other) × (number ≤ other))

-- the present number with the greatest count, the first of several
pub record IsGreatest (c : Counts) (number : ℕ) : Type 0 where
  pub is_present : slice_get c.present number ≡ Some true
  pub first : (other : ℕ) → slice_get c.present other ≡ Some true → ComesFirst c number other
