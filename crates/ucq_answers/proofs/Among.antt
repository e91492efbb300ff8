-- What is among the items of a list, by recursion on the list.
use Rattle.std.proofs.Common.{◌≡◌, ◌<◌, ◌⊎◌, inl, inr, ℕ, zero, suc, List, [], ◌∷◌, length, Some, slice_get, slice_index_or, refl, sym, arith}
use Rattle.std.specs.BTreeSet.{insert_key}
use Rattle.std.specs.Cmp.Lexicographic.{slice_cmp}
use Rattle.std.specs.List.{Contains}
use Rattle.std.specs.Ordering.{match_ordering}
use Rattle.std.specs.declared.cmp.Ordering.{Ordering}
use Rattle.std.specs.declared.cmp.Ordering.TheVariants.{Less, Equal, Greater}
use Rattle.std.proofs.lemmas.Option.{same_Some, none-some}
use Rattle.currency_base.specs.Values.{value_cmp}
use Rattle.currency_base.specs.declared.value.Value.{Value}
use Rattle.ucq_answers.proofs.Values.{exact_tuples}

-- the item is one of the list
abbrev pub Among : {A : Type 0} → List A → A → Type 0
Among [] x = ⊥
Among (y ∷ ys) x = (y ≡ x) ⊎ Among ys x

pub from_contains : {A : Type 0} (xs : List A) (x : A) → Contains xs x → Among xs x
from_contains [] x is = absurd (omega (arith, is.1))
from_contains {A} (y ∷ ys) x is = by is.0 is.1 is.2 (λ k below at. from_contains ys x (k, below, at))
  where
    by : (k : ℕ) → k < length (y ∷ ys) → slice_index_or (y ∷ ys) k x ≡ x →
        ((j : ℕ) → j < length ys → slice_index_or ys j x ≡ x → Among ys x) → (y ≡ x) ⊎ Among ys x
    by zero below at more = inl at
    by (suc j) below at more = inr (more j (omega arith) at)

pub to_contains : {A : Type 0} (xs : List A) (x : A) → Among xs x → Contains xs x
to_contains [] x is = absurd is
to_contains (y ∷ ys) x (inl same) = (0, omega arith, same)
to_contains (y ∷ ys) x (inr more) = let rest = to_contains ys x more in (suc rest.0, omega (arith, rest.1), rest.2)

-- the item at a place is among them
pub from_place : {A : Type 0} (xs : List A) (i : ℕ) (x : A) → slice_get xs i ≡ Some x → Among xs x
from_place [] i x at = absurd (none-some x at)
from_place (y ∷ ys) zero x at = inl (same_Some y x at)
from_place (y ∷ ys) (suc i) x at = inr (from_place ys i x at)

-- ---- a tuple at its place in the order

pub in_inserted : (xs : List (List Value)) (k : List Value) → Among (insert_key (slice_cmp value_cmp) xs k) k
in_inserted [] k = inl refl
in_inserted (x ∷ xs) k = by (slice_cmp value_cmp k x) refl (in_inserted xs k)
  where
    by : (o : Ordering) → slice_cmp value_cmp k x ≡ o → Among (insert_key (slice_cmp value_cmp) xs k) k
        → Among (match_ordering o (k ∷ x ∷ xs) (x ∷ xs) (x ∷ insert_key (slice_cmp value_cmp) xs k)) k
    by Less at more = inl refl
    by Equal at more = inl (sym (exact_tuples k x at))
    by Greater at more = inr more

pub kept_inserted : (xs : List (List Value)) (k y : List Value) → Among xs y → Among (insert_key (slice_cmp value_cmp) xs k) y
kept_inserted [] k y is = absurd is
kept_inserted (x ∷ xs) k y is = by (slice_cmp value_cmp k x) is (λ more. kept_inserted xs k y more)
  where
    by : (o : Ordering) → (x ≡ y) ⊎ Among xs y → (Among xs y → Among (insert_key (slice_cmp value_cmp) xs k) y)
        → Among (match_ordering o (k ∷ x ∷ xs) (x ∷ xs) (x ∷ insert_key (slice_cmp value_cmp) xs k)) y
    by Less own more = inr own
    by Equal own more = own
    by Greater (inl same) more = inl same
    by Greater (inr rest) more = inr (more rest)

pub of_inserted : (xs : List (List Value)) (k y : List Value) → Among (insert_key (slice_cmp value_cmp) xs k) y
    → Among xs y ⊎ (k ≡ y)
of_inserted [] k y (inl same) = inr same
of_inserted [] k y (inr none) = absurd none
of_inserted (x ∷ xs) k y is = by (slice_cmp value_cmp k x) is (λ more. of_inserted xs k y more)
  where
    later : Among xs y ⊎ (k ≡ y) → Among (x ∷ xs) y ⊎ (k ≡ y)
    later (inl old) = inl (inr old)
    later (inr new) = inr new

    by : (o : Ordering) → Among (match_ordering o (k ∷ x ∷ xs) (x ∷ xs) (x ∷ insert_key (slice_cmp value_cmp) xs k)) y
        → (Among (insert_key (slice_cmp value_cmp) xs k) y → Among xs y ⊎ (k ≡ y)) → Among (x ∷ xs) y ⊎ (k ≡ y)
    by Less (inl same) more = inr same
    by Less (inr old) more = inl old
    by Equal old more = inl old
    by Greater (inl same) more = inl (inl same)
    by Greater (inr rest) more = later (more rest)
