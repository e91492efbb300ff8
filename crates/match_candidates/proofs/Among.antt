-- What is among keys that stand in order, once one more is put there.
use Rattle.std.proofs.Common.{◌≡◌, ◌<◌, ◌⊎◌, inl, inr, ℕ, zero, suc, List, [], ◌∷◌, length, slice_index_or, refl, sym, arith}
use Rattle.std.specs.BTreeSet.{insert_key}
use Rattle.std.specs.List.{Contains}
use Rattle.std.specs.Ordering.{match_ordering}
use Rattle.std.specs.declared.cmp.Ordering.{Ordering}
use Rattle.std.specs.declared.cmp.Ordering.TheVariants.{Less, Equal, Greater}
use Rattle.std.proofs.lemmas.Map.Lookups.{CmpEqualImpliesEq}

-- the item is one of the list
abbrev pub Among : {A : Type 0} → List A → A → Type 0
Among [] x = ⊥
Among (y ∷ ys) x = (y ≡ x) ⊎ Among ys x

pub from_contains : {A : Type 0} (xs : List A) (x : A) → Contains xs x → Among xs x
from_contains [] x is = absurd (omega (arith, is.1))
from_contains {A} (y ∷ ys) x is = by is.0 is.1 is.2 (λ k below at. from_contains ys x (k, below, at))
  where
    by : (k : ℕ) → k < length (y ∷ ys) → slice_index_or (y ∷ ys) k x ≡ x →
        ((j : ℕ) → j < length ys → slice_index_or ys j x ≡ x → Among ys x) → (y ≡ x) ⊎ Among ys x
    by zero below at more = inl at
    by (suc j) below at more = inr (more j (omega arith) at)

pub to_contains : {A : Type 0} (xs : List A) (x : A) → Among xs x → Contains xs x
to_contains [] x is = absurd is
to_contains (y ∷ ys) x (inl same) = (0, omega arith, same)
to_contains (y ∷ ys) x (inr more) = let rest = to_contains ys x more in (suc rest.0, omega (arith, rest.1), rest.2)

-- ---- a key at its place in the order

pub in_inserted : {A : Type 0} (cmp : A → A → Ordering) → CmpEqualImpliesEq cmp → (xs : List A) (k : A)
    → Among (insert_key cmp xs k) k
in_inserted cmp exact [] k = inl refl
in_inserted {A} cmp exact (x ∷ xs) k = by (cmp k x) refl (in_inserted cmp exact xs k)
  where
    by : (o : Ordering) → cmp k x ≡ o → Among (insert_key cmp xs k) k
        → Among (match_ordering o (k ∷ x ∷ xs) (x ∷ xs) (x ∷ insert_key cmp xs k)) k
    by Less at more = inl refl
    by Equal at more = inl (sym (exact k x at))
    by Greater at more = inr more

pub kept_inserted : {A : Type 0} (cmp : A → A → Ordering) (xs : List A) (k y : A) → Among xs y → Among (insert_key cmp xs k) y
kept_inserted cmp [] k y is = absurd is
kept_inserted {A} cmp (x ∷ xs) k y is = by (cmp k x) is (λ more. kept_inserted cmp xs k y more)
  where
    by : (o : Ordering) → (x ≡ y) ⊎ Among xs y → (Among xs y → Among (insert_key cmp xs k) y)
        → Among (match_ordering o (k ∷ x ∷ xs) (x ∷ xs) (x ∷ insert_key cmp xs k)) y
    by Less own more = inr own
    by Equal own more = own
    by Greater (inl same) more = inl same
    by Greater (inr rest) more = inr (more rest)

pub of_inserted : {A : Type 0} (cmp : A → A → Ordering) (xs : List A) (k y : A) → Among (insert_key cmp xs k) y
    → Among xs y ⊎ (k ≡ y)
of_inserted cmp [] k y (inl same) = inr same
of_inserted cmp [] k y (inr none) = absurd none
of_inserted {A} cmp (x ∷ xs) k y is = by (cmp k x) is (λ more. of_inserted cmp xs k y more)
  where
    later : Among xs y ⊎ (k ≡ y) → Among (x ∷ xs) y ⊎ (k ≡ y)
    later (inl old) = inl (inr old)
    later (inr new) = inr new

    by : (o : Ordering) → Among (match_ordering o (k ∷ x ∷ xs) (x ∷ xs) (x ∷ insert_key cmp xs k)) y
        → (Among (insert_key cmp xs k) y → Among xs y ⊎ (k ≡ y)) → Among (x ∷ xs) y ⊎ (k ≡ y)
    by Less (inl same) more = inr same
    by Less (inr old) more = inl old
    by Equal old more = inl old
    by Greater (inl same) more = inl (inl same)
    by Greater (inr rest) more = later (more rest)
