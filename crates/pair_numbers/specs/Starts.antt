-- Where the pairs of each row begin among all pairs.
use Rattle.std.specs.Prelude.{◌≡◌, ◌+◌, ◌<◌, ◌^◌, ℕ, List, length, drop, slice_index}
use Rattle.pair_numbers.specs.Pairs.{pairs_from, pairs_of}

-- how many pairs the rows from this one on are the first rows of
abbrev pub left_from : List ℕ → ℕ → ℕ
left_from entities row = length (pairs_from row (drop row entities))

-- of each of the first so many rows, how many pairs have a lesser first row; in all there are so many pairs
abbrev pub AreBefore : List ℕ → List ℕ → ℕ → ℕ → Type 0
AreBefore entities starts rows total = (row : ℕ) → row < rows → slice_index starts row + left_from entities row ≡ total

-- of each row, how many pairs have a lesser first row; in all there are so many pairs
pub record AreStarts (entities starts : List ℕ) (total : ℕ) : Type 0 where
  pub few : length entities + 1 < 2 ^ 32
  pub few_pairs : total < 2 ^ 32
  pub rows : length starts ≡ length entities
  pub pairs : total ≡ length (pairs_of entities)
  pub before : AreBefore entities starts (length entities) total
