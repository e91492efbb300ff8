-- Literals whose variables ascend.
use Rattle.std.proofs.Common.{◌≡◌, ◌⊎◌, ◌<◌, ◌≤◌, ◌+◌, ◌-◌, ◌∙◌, ℕ, List, Option, Some, None, length, slice_get, get_or, IfSome, refl, sym, subst, inl, inr, arith}
use Rattle.std.proofs.Math.Nat.{eq-or-lt_of_le}
use Rattle.std.proofs.lemmas.Bool.{cases_lt}
use Rattle.std.proofs.lemmas.Option.{slice_get_within, slice_get-get_or}
use Rattle.currency_base.specs.Lists.{OnlyOnce}
use Rattle.currency_base.specs.Literals.{var_of}
use Rattle.currency_base.specs.declared.lit.Lit.{Lit}
use Rattle.search_state.specs.States.{IsFit}

-- the variables before a place ascend, and are among so many
pub record Ascend (lits : List Lit) (place vars : ℕ) : Type 0 where
  pub within : (i : ℕ) (a : Lit) → i < place → slice_get lits i ≡ Some a → var_of a < vars
  pub rise : (i j : ℕ) (a b : Lit) → i < j → j < place → slice_get lits i ≡ Some a → slice_get lits j ≡ Some b
      → var_of a < var_of b

pub ascend_none : (lits : List Lit) (vars : ℕ) → Ascend lits 0 vars
ascend_none lits vars = record {
  within = λ i a h is. absurd (omega (arith, h));
  rise = λ i j a b h k is there. absurd (omega (arith, k));
}

-- one literal more: the first, or of a greater variable than the one before
pub ascend_more : (lits : List Lit) (place vars : ℕ) (x : Lit) → Ascend lits place vars → slice_get lits place ≡ Some
    x → var_of x < vars
    → ((y : Lit) → 0 < place → slice_get lits (place - 1) ≡ Some y → var_of y < var_of x) → Ascend lits (place + 1) vars
ascend_more lits place vars x so is low above = record { within = within; rise = rise }
  where
    same : (a : Lit) → slice_get lits place ≡ Some a → x ≡ a
    same a at = let e : Some x ≡ Some a = sym is ∙ at in cc

    within : (i : ℕ) (a : Lit) → i < place + 1 → slice_get lits i ≡ Some a → var_of a < vars
    within i a h at = by (eq-or-lt_of_le {n = i} {m = place} (omega (arith, h)))
      where
        by : (i ≡ place) ⊎ (i < place) → var_of a < vars
        by (inl e) = subst (λ l. var_of l < vars) (same a (subst (λ k. slice_get lits k ≡ Some a) e at)) low
        by (inr less) = so.within i a less at

    rise : (i j : ℕ) (a b : Lit) → i < j → j < place + 1 → slice_get lits i ≡ Some a → slice_get lits j ≡ Some b
        → var_of a < var_of b
    rise i j a b h k at there = by (eq-or-lt_of_le {n = j} {m = place} (omega (arith, k)))
      where
        last : (i < place) → (i ≡ place - 1) ⊎ (i < place - 1) → var_of a < var_of x
        last less (inl e) = above a (omega (arith, less)) (subst (λ n. slice_get lits n ≡ Some a) e at)
        last less (inr before) =
            let y : Lit = get_or lits (place - 1) x in
            let inside : place - 1 < length lits = let w = slice_get_within lits place x is in omega (arith, w) in
            let is_y : slice_get lits (place - 1) ≡ Some y = slice_get-get_or lits (place - 1) x inside in
            let low = so.rise i (place - 1) a y before (omega (arith, less)) at is_y in
            let high = above y (omega (arith, less)) is_y in
            omega (arith, low, high)

        by : (j ≡ place) ⊎ (j < place) → var_of a < var_of b
        by (inl e) =
            let less : i < place = omega (arith, h, e) in
            subst (λ l. var_of a < var_of l) (same b (subst (λ n. slice_get lits n ≡ Some b) e there))
            (last less (eq-or-lt_of_le {n = i} {m = place - 1} (omega (arith, less))))
        by (inr less) = so.rise i j a b h less at there

-- the same, by what is read at both places
pub ascend_on : (lits : List Lit) (place vars : ℕ) → Ascend lits place vars → place < length lits
    → IfSome (slice_get lits place) (λ lit. var_of lit < vars)
    → (0 < place → IfSome (slice_get lits place) (λ lit. IfSome (slice_get lits (place - 1))
    (λ before. var_of before < var_of lit)))
    → Ascend lits (place + 1) vars
ascend_on lits place vars so inside low high = by (slice_get lits place) refl
  where
    by : (o : Option Lit) → slice_get lits place ≡ o → Ascend lits (place + 1) vars
    by None is = absurd (let w = slice_get-get_or lits place (record { 0 = 0 }) inside in cc)
    by (Some x) is =
        ascend_more lits place vars x so is (subst (λ o. IfSome o (λ lit. var_of lit < vars)) is low)
        (λ y some at. subst (λ o. IfSome o (λ before. var_of before < var_of x)) at
        (subst (λ o. IfSome o (λ lit. IfSome (slice_get lits (place - 1)) (λ before. var_of before < var_of lit))) is
        (high some)))

-- literals that ascend are fit for a clause
pub ascending_fit : (lits : List Lit) (vars : ℕ) → Ascend lits (length lits) vars → IsFit vars lits
ascending_fit lits vars so = record {
  within = λ k d h. so.within k (get_or lits k d) h (slice_get-get_or lits k d h);
  once = once;
}
  where
    not_less : (i j : ℕ) (x : Lit) → slice_get lits i ≡ Some x → slice_get lits j ≡ Some x → i < j → ⊥
    not_less i j x at there h =
        let low = so.rise i j x x h (slice_get_within lits j x there) at there in omega (arith, low)

    once : OnlyOnce lits
    once i j x at there = by (cases_lt i j) (cases_lt j i)
      where
        by : (i < j) ⊎ (j ≤ i) → (j < i) ⊎ (i ≤ j) → i ≡ j
        by (inl below) other = absurd (not_less i j x at there below)
        by (inr above) (inl below) = absurd (not_less j i x there at below)
        by (inr above) (inr below) = omega arith
