-- What a binary search finds among items that ascend by a number.
use Rattle.std.proofs.Common.{◌≡◌, ◌<◌, ◌≤◌, ◌∙◌, ◌⊎◌, ℕ, List, Some, Contains, Err, get_or, length, slice_get, sym, ap, inl, inr, arith}
use Rattle.std.specs.List.{HoldsAt}
use Rattle.std.specs.List.Sorted.{IsBinarySearchResult, IsNonDecreasingBy}
use Rattle.std.specs.Ordering.{nat_cmp, ordering_index}
use Rattle.std.specs.declared.cmp.Ordering.TheVariants.{Equal}
use Rattle.std.proofs.lemmas.Bool.{cases_lt}
use Rattle.std.proofs.lemmas.Bool.Decides.{nat_tests}
use Rattle.std.proofs.lemmas.Cmp.{ranked}
use Rattle.std.proofs.lemmas.Option.{slice_get-get_or}
use Rattle.currency_base.specs.declared.ids.EntId.{EntId}
use Rattle.currency_base.specs.declared.ids.RowId.{RowId}
use Rattle.part_laws.specs.Parts.{RowsAscend, EntitiesAscend}

module _ {A : Type 0} (key : A → ℕ) (xs : List A) (x : A) where
  pub found : ((a b : A) → key a ≡ key b → a ≡ b) → (i : ℕ) → i < length xs → HoldsAt (λ y. nat_cmp (key y) (key x) ≡ Equal) xs i
      → slice_get xs i ≡ Some x
  found same i below h =
      let equal : key (get_or xs i x) ≡ key x = ranked _ (key x) _ (sym (h x)) in
      slice_get-get_or xs i x below ∙ ap Some (same (get_or xs i x) x equal)

  rise : ((i j : ℕ) (d : A) → i ≤ j → j < length xs → key (get_or xs i d) ≤ key (get_or xs j d))
      → IsNonDecreasingBy (λ y. ordering_index (nat_cmp (key y) (key x))) xs
  rise up i j d le below = let h : key (get_or xs i d) ≤ key (get_or xs j d) = up i j d le below in grind (arith, nat_tests)

  pub missed : (i : ℕ) → ((i j : ℕ) (d : A) → i ≤ j → j < length xs → key (get_or xs i d) ≤ key (get_or xs j d))
      → IsBinarySearchResult (λ y. nat_cmp (key y) (key x)) xs (Err i) → Contains xs x → ⊥
  missed i up parted c = by (cases_lt c.0 i)
    where
      by : (c.0 < i) ⊎ (i ≤ c.0) → ⊥
      by (inl low) =
          let less : key (get_or xs c.0 x) < key x = ranked _ (key x) _
          (sym ((parted (rise up)).0 c.0 x (omega (arith, c.1)) low)) in
          absurd (omega (arith, less, ap key c.2))
      by (inr high) =
          let more : key x < key (get_or xs c.0 x) = ranked _ (key x) _ (sym ((parted (rise up)).1 c.0 x high c.1)) in
          absurd (omega (arith, more, ap key c.2))

-- numbers that ascend do not fall
module _ {A : Type 0} (key : A → ℕ) (xs : List A) where
  pub rise_from : ((i j : ℕ) (x y : A) → i < j → slice_get xs i ≡ Some x → slice_get xs j ≡ Some y → key x < key y)
      → (i j : ℕ) (d : A) → i ≤ j → j < length xs → key (get_or xs i d) ≤ key (get_or xs j d)
  rise_from ascend i j d le below = by (cases_lt i j)
    where
      by : (i < j) ⊎ (j ≤ i) → key (get_or xs i d) ≤ key (get_or xs j d)
      by (inl low) =
          let in_xs : i < length xs = omega (arith, low, below) in
          let less : key (get_or xs i d) < key (get_or xs j d) =
          ascend i j (get_or xs i d) (get_or xs j d) low (slice_get-get_or xs i d in_xs) (slice_get-get_or xs j d below) in
          omega (arith, less)
      by (inr high) =
          let same : i ≡ j = omega (arith, le, high) in
          let e : key (get_or xs i d) ≡ key (get_or xs j d) = ap (λ (n : ℕ). key (get_or xs n d)) same in
          omega (arith, e)

pub rows_rise : (rows : List RowId) → RowsAscend rows → (i j : ℕ) (d : RowId) → i ≤ j → j < length rows
    → (get_or rows i d).0 ≤ (get_or rows j d).0
rows_rise rows ascend = rise_from (λ x. x.0) rows ascend

pub entities_rise : (entities : List EntId) → EntitiesAscend entities → (i j : ℕ) (d : EntId) → i ≤ j → j < length entities
    → (get_or entities i d).0 ≤ (get_or entities j d).0
entities_rise entities ascend = rise_from (λ x. x.0) entities ascend

pub same_number : (a b : RowId) → a.0 ≡ b.0 → a ≡ b
same_number a b e = ap (λ (n : ℕ). let x : RowId = record { 0 = n } in x) e

pub same_id : (a b : EntId) → a.0 ≡ b.0 → a ≡ b
same_id a b e = ap (λ (n : ℕ). let x : EntId = record { 0 = n } in x) e

-- and stand once each
pub once : {A : Type 0} (key : A → ℕ) (xs : List A)
    → ((i j : ℕ) (x y : A) → i < j → slice_get xs i ≡ Some x → slice_get xs j ≡ Some y → key x < key y)
    → (i j : ℕ) (x : A) → slice_get xs i ≡ Some x → slice_get xs j ≡ Some x → i ≡ j
once key xs ascend i j x at at' = by (cases_lt i j) (cases_lt j i)
  where
    by : (i < j) ⊎ (j ≤ i) → (j < i) ⊎ (i ≤ j) → i ≡ j
    by (inl low) other = absurd (omega (arith, ascend i j x x low at at'))
    by (inr high) (inl low) = absurd (omega (arith, ascend j i x x low at' at))
    by (inr high) (inr high') = omega (arith, high, high')

pub one_row : (rows : List RowId) (i j : ℕ) (x : RowId) → RowsAscend rows → slice_get rows i ≡ Some x
    → slice_get rows j ≡ Some x → i ≡ j
one_row rows i j x ascend at at' = once (λ y. y.0) rows ascend i j x at at'

pub one_entity : (entities : List EntId) (i j : ℕ) (x : EntId) → EntitiesAscend entities → slice_get entities i ≡ Some x
    → slice_get entities j ≡ Some x → i ≡ j
one_entity entities i j x ascend at at' = once (λ y. y.0) entities ascend i j x at at'
