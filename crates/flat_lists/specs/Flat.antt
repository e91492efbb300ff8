-- Lists of lists that are kept flat.
use Rattle.std.specs.Prelude.{◌≡◌, ◌≤◌, ℕ, List, [], ◌∷◌, slice_range}

-- the items from a start on, cut at these ends
abbrev pub cut_from : {A : Type 0} → ℕ → List ℕ → List A → List (List A)
cut_from start [] items = []
cut_from start (end ∷ ends) items = slice_range items start end ∷ cut_from end ends items

-- from a start on, no end is below the one before it, and the last is the total
abbrev pub Ascend : ℕ → List ℕ → ℕ → Type 0
Ascend start [] total = start ≡ total
Ascend start (end ∷ ends) total = (start ≤ end) × Ascend end ends total

-- these are the ends of lists of so many items together, each of 32 bits
pub record IsFlat (ends : List ℕ) (total : ℕ) : Type 0 where
  pub ascend : Ascend 0 ends total
  pub few : total ≤ 4294967295
