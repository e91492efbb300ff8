-- Given pairs are kept, and the order of rows is transitive.
use Rattle.std.proofs.Common.{◌≡◌, ◌&&◌, ◌<◌, ℕ, true, List, [], ◌∷◌, Some, length, slice_get, subst, inl, inr}
use Rattle.std.proofs.lemmas.Bool.{and_parts}
use Rattle.currency_base.specs.declared.ids.AttrId.{AttrId}
use Rattle.currency_base.specs.declared.ids.RelId.{RelId}
use Rattle.currency_base.specs.declared.ids.RowId.{RowId}
use Rattle.currency_base.specs.declared.pair.Pair.{Pair}
use Rattle.partial_orders.specs.Pairs.{has_pair}
use Rattle.partial_orders.proofs.PairOrder.{has_is_contained}
use Rattle.spec_model.specs.Completion.{Rankings, lists_of, Before}
use Rattle.spec_model.specs.Consistent.{KeepsGiven}
use Rattle.spec_model.specs.declared.relation.Relation.{Relation}
use Rattle.log_axioms.specs.Axioms.{before, not_before, is_attr, are_two, given_clause, transitive_clause}
use Rattle.log_axioms.specs.declared.signed.Signed.{Signed}
use Rattle.axiom_laws.proofs.Chosen.{HasTrue, IsCase, true_first, true_later, some_if, attr_in, two_are}
use Rattle.axiom_laws.proofs.Decisions.{Decided, before_or}
use Rattle.axiom_laws.proofs.Standing.{before_next}

pub given_true : (relations : List Relation) (c : Rankings) (answers : ℕ → Type 0) (rel : RelId) (attr : AttrId)
    (earlier later : RowId) (r : Relation)
    (clause : List Signed) → KeepsGiven relations c
    → slice_get relations rel.0 ≡ Some r → given_clause rel attr earlier later r ≡ Some clause → HasTrue relations c
    answers clause
given_true relations c answers rel attr earlier later r clause keeps at e =
    let p : Pair = record { attr = attr; earlier = earlier; later = later } in
    let parts = some_if (has_pair r.given p) (before rel attr earlier later ∷ []) clause e in
    subst (HasTrue relations c answers) parts.1 (true_first tt (keeps rel.0 r at p (has_is_contained r.given p parts.0)))

pub transitive_true : (relations : List Relation) (c : Rankings) (answers : ℕ → Type 0) (rel : RelId) (attr : AttrId)
    (first second third : RowId)
    (r : Relation) (clause : List Signed) → IsCase relations c
    → slice_get relations rel.0 ≡ Some r → transitive_clause rel attr first second third r ≡ Some clause
    → HasTrue relations c answers clause
transitive_true relations c answers rel attr first second third r clause is at e =
    let in_front = is_attr r attr && are_two r.rows first second in
    let parts = some_if (in_front && are_two r.rows second third && are_two r.rows first third) all clause e in
    let outer = and_parts (in_front && are_two r.rows second third) (are_two r.rows first third) parts.0 in
    let middle = and_parts in_front (are_two r.rows second third) outer.0 in
    let inner = and_parts (is_attr r attr) (are_two r.rows first second) middle.0 in
    subst (HasTrue relations c answers) parts.1
    (by (attr_in r attr inner.0) inner.1 middle.1
    (before_or (lists_of c rel.0 attr.0) first second) (before_or (lists_of c rel.0 attr.0) second third))
  where
    all : List Signed
    all = not_before rel attr first second ∷ not_before rel attr second third ∷ before rel attr first third ∷ []

    by : attr.0 < length r.attrs → are_two r.rows first second ≡ true → are_two r.rows second third ≡ true
        → Decided (Before (lists_of c rel.0 attr.0) first second)
        → Decided (Before (lists_of c rel.0 attr.0) second third) → HasTrue relations c answers all
    by inside two two' (inr n) m = true_first (two_are relations rel.0 r attr.0 first second is.facts at inside two) n
    by inside two two' (inl s) (inr n) =
        true_later (true_first (two_are relations rel.0 r attr.0 second third is.facts at inside two') n)
    by inside two two' (inl s) (inl t) =
        true_later (true_later (true_first tt (before_next relations c rel.0 attr.0 first second third is.completion s t)))
