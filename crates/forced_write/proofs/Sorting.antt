-- The order of forced pairs.
use Rattle.std.proofs.Common.{◌≡◌, ◌≢◌, ◌⊎◌, ◌<◌, ◌≤◌, ◌==◌, ℕ, suc, true, false, List, [], ◌∷◌, ◌++◌, All, nat_lt, refl, inl, inr, arith}
use Rattle.std.specs.List.{AllByRecursion}
use Rattle.std.specs.List.Sorted.{IsStrictlySortedBy}
use Rattle.std.specs.Ordering.{nat_cmp}
use Rattle.std.specs.declared.cmp.Ordering.{Ordering}
use Rattle.std.specs.declared.cmp.Ordering.TheVariants.{Less, Equal}
use Rattle.std.proofs.lemmas.Bool.Decides.{eqb_tells, leb_tells}
use Rattle.std.proofs.lemmas.List.Elements.{All-contains, All-head, All-tail}
use Rattle.currency_base.specs.declared.ids.RowId.{RowId}
use Rattle.spec_model.specs.declared.question.Asked.{Asked}
use Rattle.forced_write.specs.ForcedText.{pair_cmp}
use Rattle.forced_write.specs.Listing.{Precedes}
use Rattle.forced_write.specs.Listing.Precedes.{by_rel, by_attr, by_earlier, by_later}

nat_less : (m n : ℕ) → m < n → nat_cmp m n ≡ Less
nat_less m n below = by (leb_tells (suc m) n)
  where
    by : ((nat_lt m n ≡ true) × (suc m ≤ n)) ⊎ ((nat_lt m n ≡ false) × (n < suc m)) → nat_cmp m n ≡ Less
    by (inl h) = rw h.0 refl
    by (inr h) = absurd (omega arith)

nat_same : (n : ℕ) → nat_cmp n n ≡ Equal
nat_same n = by (leb_tells (suc n) n) (eqb_tells n n)
  where
    by : ((nat_lt n n ≡ true) × (suc n ≤ n)) ⊎ ((nat_lt n n ≡ false) × (n < suc n))
        → (((n == n) ≡ true) × (n ≡ n)) ⊎ (((n == n) ≡ false) × (n ≢ n)) → nat_cmp n n ≡ Equal
    by (inl h) g = absurd (omega arith)
    by (inr h) (inl g) = rw (h.0, g.0) refl
    by (inr h) (inr g) = absurd (g.1 refl)

-- a pair that comes before another one is less
pub pair_less : (p q : Asked) (laters : List RowId) → All (λ row. row.0 < q.pair.later.0) laters
    → Precedes q.rel.0 q.pair.attr.0 q.pair.earlier.0 laters p → pair_cmp p q ≡ Less
pair_less p q laters below (by_rel h) = rw (nat_less p.rel.0 q.rel.0 h) refl
pair_less p q laters below (by_attr e h) = rw (e, nat_same q.rel.0, nat_less p.pair.attr.0 q.pair.attr.0 h) refl
pair_less p q laters below (by_earlier e f h) =
    rw (e, f, nat_same q.rel.0, nat_same q.pair.attr.0, nat_less p.pair.earlier.0 q.pair.earlier.0 h) refl
pair_less p q laters below (by_later e f g in_laters) =
    let h = All-contains (λ (row : RowId). row.0 < q.pair.later.0) laters p.pair.later below in_laters in
    rw (
      e,
      f,
      g,
      nat_same q.rel.0,
      nat_same q.pair.attr.0,
      nat_same q.pair.earlier.0,
      nat_less p.pair.later.0
          q.pair.later.0 h,
    ) refl

push_by_recursion : {K : Type 0} (P : K → Type 0) (xs : List K) (y : K) → AllByRecursion P xs → P y
    → AllByRecursion P (xs ++ y ∷ [])
push_by_recursion P [] y all here = (here, tt)
push_by_recursion P (x ∷ xs) y all here = (all.0, push_by_recursion P xs y all.1 here)

pub sorted_none : {K : Type 0} (cmp : K → K → Ordering) → IsStrictlySortedBy cmp []
unfolding IsStrictlySortedBy
sorted_none cmp = tt

-- an item that is behind all others
pub sorted_push : {K : Type 0} (cmp : K → K → Ordering) (xs : List K) (y : K) → IsStrictlySortedBy cmp xs
    → All (λ x. cmp x y ≡ Less) xs
    → IsStrictlySortedBy cmp (xs ++ y ∷ [])
unfolding IsStrictlySortedBy
sorted_push cmp [] y sorted less = (tt, tt)
sorted_push cmp (x ∷ xs) y sorted less = (
  push_by_recursion (λ z. cmp x z ≡ Less) xs y sorted.0 (All-head (λ z. cmp z y ≡ Less) x xs less),
  sorted_push cmp xs y sorted.1 (All-tail (λ z. cmp z y ≡ Less) x xs less),
)
