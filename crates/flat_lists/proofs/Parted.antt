-- The last of numbers that do not fall that is up to a number, by where they are parted.
use Rattle.std.proofs.Common.{◌≡◌, ◌⊎◌, ◌+◌, ◌-◌, ◌<◌, ◌≤◌, ℕ, true, false, List, length, slice_index, leb, leb-true, sym, ◌∙◌, inl, inr, arith}
use Rattle.std.proofs.lemmas.Bool.{cases_lt, false≢true, le-leb}
use Rattle.std.specs.List.Sorted.{IsPartitionPoint}

abbrev Parted : List ℕ → ℕ → ℕ → Type 0
Parted xs number at = IsPartitionPoint (λ y. leb y number ≡ true) (λ y. leb y number ≡ false) xs at

leb-false : (x number : ℕ) → leb x number ≡ false → number < x
leb-false x number is = go (cases_lt number x)
  where
    go : (number < x) ⊎ (x ≤ number) → number < x
    go (inl h) = h
    go (inr h) = absurd (false≢true (sym is ∙ le-leb x number h))

module _ (xs : List ℕ) (number at : ℕ) (parted : Parted xs number at) (some : 0 < length xs)
    (first : slice_index xs 0 ≤ number) where
  pub some_up_to : 1 ≤ at
  some_up_to = go (cases_lt 0 at)
    where
      go : (0 < at) ⊎ (at ≤ 0) → 1 ≤ at
      go (inl h) = omega arith
      go (inr h) = absurd (omega (arith, leb-false _ _ (parted.1 0 0 (omega arith) some)))

  pub last_one : slice_index xs (at - 1) ≤ number
  last_one = leb-true _ _ (parted.0 (at - 1) 0 (omega arith) (omega (arith, some_up_to)))

  pub next_one : at - 1 + 1 < length xs → number < slice_index xs (at - 1 + 1)
  next_one within = leb-false _ _ (parted.1 (at - 1 + 1) 0 (omega (arith, some_up_to)) within)
