-- Pairs without one of them: which pairs are left, and that adding and taking out undo each other.
use Rattle.std.proofs.Common.{◌≡◌, ◌≢◌, Bool, true, false, cond, ◌||◌, List, [], ◌∷◌, Contains, refl, sym, ap, ◌∙◌}
use Rattle.std.specs.BTreeSet.{insert_key}
use Rattle.std.specs.Cmp.{IsTotalOrder}
use Rattle.std.specs.List.{AllByRecursion}
use Rattle.std.specs.List.Sorted.{IsStrictlySortedBy}
use Rattle.std.specs.Ordering.{is_eq, match_ordering, ordering_reverse}
use Rattle.std.specs.declared.cmp.Ordering.{Ordering}
use Rattle.std.specs.declared.cmp.Ordering.TheVariants.{Less, Equal, Greater}
use Rattle.std.proofs.lemmas.Bool.{false≢true, both_ways, or_parts}
use Rattle.std.proofs.lemmas.Cmp.{nat_cmp_total, on_total, then_total, tied_itself, eq_by_cmp_equiv}
use Rattle.std.proofs.lemmas.List.Elements.{All-contains, All-from_recursion}
use Rattle.std.proofs.lemmas.Map.Keys.{sorted_head, sorted_tail}
use Rattle.std.proofs.lemmas.Map.Views.{list_any-from_Contains}
use Rattle.currency_base.specs.declared.pair.Pair.{Pair}
use Rattle.partial_orders.specs.Pairs.{pair_cmp, has_pair, without_pair}
use Rattle.partial_orders.proofs.PairOrder.{same_pair, has_is_contained}

pairs_total : IsTotalOrder pair_cmp
pairs_total =
    then_total (on_total (λ (p : Pair). p.attr.0) nat_cmp_total)
    (then_total (on_total (λ (p : Pair). p.earlier.0) nat_cmp_total) (on_total (λ (p : Pair). p.later.0) nat_cmp_total))

-- ---- which pairs are left

-- a pair that stands there is found
found : (pairs : List Pair) (p : Pair) → Contains pairs p → has_pair pairs p ≡ true
found pairs p there = list_any-from_Contains (eq_by_cmp_equiv pairs_total) p pairs there

pub is_gone : (new : List Pair) (p : Pair) → has_pair new p ≡ false → Contains new p → ⊥
is_gone new p lacks there = both_ways (has_pair new p) lacks (found new p there)

-- what is found in the new list, where the pair is taken out
abbrev Takes : List Pair → List Pair → Pair → Pair → Type 0
Takes old new p q = has_pair new q ≡ cond (is_eq (pair_cmp p q)) false (has_pair old q)

pub others_stay : (old new : List Pair) (p q : Pair) → Takes old new p q → q ≢ p → Contains old q → Contains new q
others_stay old new p q takes other there = by (is_eq (pair_cmp p q)) refl
  where
    by : (b : Bool) → is_eq (pair_cmp p q) ≡ b → Contains new q
    by true e = absurd (other (sym (same_pair p q e)))
    by false e = has_is_contained new q (takes ∙ ap (λ b. cond b false (has_pair old q)) e ∙ found old q there)

pub are_among : (old new : List Pair) (p q : Pair) → Takes old new p q → Contains new q → Contains old q
are_among old new p q takes there = by (is_eq (pair_cmp p q)) refl
  where
    by : (b : Bool) → is_eq (pair_cmp p q) ≡ b → Contains old q
    by true e =
        absurd (false≢true (sym (takes ∙ ap (λ b. cond b false (has_pair old q)) e) ∙ found new q there))
    by false e =
        has_is_contained old q (sym (takes ∙ ap (λ b. cond b false (has_pair old q)) e) ∙ found new q there)

-- ---- adding and taking out undo each other

itself : (p : Pair) → is_eq (pair_cmp p p) ≡ true
itself p = ap is_eq (tied_itself pairs_total p)

pub taken_again : (pairs : List Pair) (p : Pair) → has_pair pairs p ≡ false
    → without_pair (insert_key pair_cmp pairs p) p ≡ pairs
taken_again [] p lacks = ap (λ b. cond b [] (p ∷ [])) (itself p)
taken_again (x ∷ xs) p lacks =
    let parts = or_parts (is_eq (pair_cmp p x)) (has_pair xs p) lacks in
    by (pair_cmp p x) refl parts.0 (taken_again xs p parts.1)
  where
    by : (o : Ordering) → pair_cmp p x ≡ o → is_eq (pair_cmp p x) ≡ false → without_pair (insert_key pair_cmp xs p) p ≡ xs
        → without_pair (match_ordering o (p ∷ x ∷ xs) (x ∷ xs) (x ∷ insert_key pair_cmp xs p)) p ≡ x ∷ xs
    by Less e apart rest = ap (λ b. cond b (x ∷ xs) (p ∷ without_pair (x ∷ xs) p)) (itself p)
    by Equal e apart rest = absurd (both_ways (is_eq (pair_cmp p x)) apart (ap is_eq e))
    by Greater e apart rest =
        ap (λ b. cond b (insert_key pair_cmp xs p) (x ∷ without_pair (insert_key pair_cmp xs p) p)) apart
        ∙ ap (λ (ys : List Pair). x ∷ ys) rest

-- a pair below all others is put in front
put_first : (p : Pair) (xs : List Pair) → AllByRecursion (λ y. pair_cmp p y ≡ Less) xs → insert_key pair_cmp xs p ≡ p ∷ xs
put_first p [] below = refl
put_first p (y ∷ ys) below = ap (λ o. match_ordering o (p ∷ y ∷ ys) (y ∷ ys) (y ∷ insert_key pair_cmp ys p)) below.0

-- a pair that stands further behind is above the first one
behind : (x p : Pair) (xs : List Pair) → AllByRecursion (λ y. pair_cmp x y ≡ Less) xs → has_pair xs p ≡ true
    → pair_cmp p x ≡ Greater
behind x p xs below has =
    pairs_total.antisymm p x ∙ ap ordering_reverse
    (All-contains (λ y. pair_cmp x y ≡ Less) xs p (All-from_recursion (λ y. pair_cmp x y ≡ Less) xs below)
    (has_is_contained xs p has))

pub put_again : (pairs : List Pair) (p : Pair) → IsStrictlySortedBy pair_cmp pairs → has_pair pairs p ≡ true
    → insert_key pair_cmp (without_pair pairs p) p ≡ pairs
put_again [] p ascends has = absurd (false≢true has)
put_again (x ∷ xs) p ascends has =
    by (is_eq (pair_cmp p x)) refl has (put_again xs p (sorted_tail pair_cmp x xs ascends))
  where
    below : AllByRecursion (λ y. pair_cmp x y ≡ Less) xs
    below = sorted_head pair_cmp x xs ascends

    by : (b : Bool) → is_eq (pair_cmp p x) ≡ b → (b || has_pair xs p) ≡ true
        → (has_pair xs p ≡ true → insert_key pair_cmp (without_pair xs p) p ≡ xs)
        → insert_key pair_cmp (cond b xs (x ∷ without_pair xs p)) p ≡ x ∷ xs
    by true e has rest =
        ap (insert_key pair_cmp xs) (same_pair p x e) ∙ put_first x xs below
    by false e has rest =
        ap (λ o. match_ordering o (p ∷ x ∷ without_pair xs p) (x ∷ without_pair xs p)
        (x ∷ insert_key pair_cmp (without_pair xs p) p)) (behind x p xs below has)
        ∙ ap (λ (ys : List Pair). x ∷ ys) (rest has)
