-- All lists of an attribute are built, and all of a relation.
use Rattle.std.proofs.Common.{◌≡◌, ◌+◌, ◌<◌, ◌≤◌, ℕ, Bool, List, [], Some, length, slice_get, sym, ap, ◌∙◌, ⊎_elim, arith}
use Rattle.std.specs.List.Sorted.{IsStrictlySortedBy}
use Rattle.std.proofs.lemmas.Bool.{cases_lt}
use Rattle.std.proofs.lemmas.List.Elements.{All-nil, All-weaker}
use Rattle.std.proofs.lemmas.Option.{same_Some}
use Rattle.order_literals.specs.Numbers.{Numbers}
use Rattle.order_literals.specs.Statements.{statements_of}
use Rattle.spec_model.specs.Completion.{Rankings, HasShape}
use Rattle.spec_model.specs.declared.relation.Relation.{Relation}
use Rattle.completion_build.specs.declared.built.Cycle.{Cycle}
use Rattle.completion_build.specs.Places.{Precedes, AreBuilt}
use Rattle.completion_build.specs.Places.Precedes.{by_rel, by_attr, by_ent}
use Rattle.completion_build.specs.Ranked.{IsCycle, cycle_cmp}

-- ---- the first place

none_before : {rel attr ent : ℕ} → Precedes 0 0 0 rel attr ent → ⊥
none_before (by_rel h) = omega arith
none_before (by_attr e h) = omega arith
none_before (by_ent e f h) = omega arith

none_sorted : IsStrictlySortedBy cycle_cmp []
unfolding IsStrictlySortedBy
none_sorted = tt

-- no list is built
pub built_none : (relations : List Relation) (n : Numbers) (truths : List Bool) (c : Rankings) → HasShape relations c
    → AreBuilt relations n truths 0 0 0 c []
built_none relations n truths c shape = record {
  shape = shape;
  lists = λ rel attr ent r at attr_below ent_below before. absurd (none_before before);
  each = All-nil (IsCycle relations (statements_of n) truths);
  before = All-nil (λ (x : Cycle). Precedes 0 0 0 x.rel.0 x.attr.0 x.ent.0);
  ascend = none_sorted;
}

-- ---- the places of the next attribute

to_attr : (rel attr ent : ℕ) {rel' attr' ent' : ℕ} → Precedes rel attr ent rel' attr' ent' → Precedes rel (attr + 1)
    0 rel' attr' ent'
to_attr rel attr ent (by_rel h) = by_rel h
to_attr rel attr ent (by_attr e h) = by_attr e (omega arith)
to_attr rel attr ent (by_ent e f h) = by_attr e (omega arith)

from_attr : (relations : List Relation) (rel attr ent : ℕ) (r r' : Relation) → slice_get relations rel ≡ Some r
    → length r.entities ≤ ent
    → {rel' attr' ent' : ℕ} → slice_get relations rel' ≡ Some r' → ent' < length r'.entities → Precedes rel
    (attr + 1) 0 rel' attr' ent' → Precedes rel attr ent rel' attr' ent'
from_attr relations rel attr ent r r' at all at' below (by_rel h) = by_rel h
from_attr relations rel attr ent r r' at all at' below (by_attr {rel = rel'} {attr = attr'} {ent = ent'} e h) =
    let r_is : r' ≡ r = same_Some r' r (sym at' ∙ ap (slice_get relations) e ∙ at) in
    let many : length r'.entities ≡ length r.entities = ap (λ (x : Relation). length x.entities) r_is in
    ⊎_elim (λ (g : attr' < attr). by_attr e g) (λ (g : attr ≤ attr'). by_ent e (omega arith) (omega arith)) (cases_lt attr' attr)
from_attr relations rel attr ent r r' at all at' below (by_ent e f h) = absurd (omega arith)

-- all lists of an attribute
pub attribute_all : (relations : List Relation) (n : Numbers) (truths : List Bool) (rel attr ent : ℕ) (r : Relation)
    (c : Rankings) (cycles : List Cycle)
    → slice_get relations rel ≡ Some r → length r.entities ≤ ent → AreBuilt relations n truths rel attr ent c cycles
    → AreBuilt relations n truths rel (attr + 1) 0 c cycles
attribute_all relations n truths rel attr ent r c cycles at all built = record {
  shape = built.shape;
  lists = λ rel' attr' ent' r' at' attr_below ent_below before.
      built.lists rel' attr' ent' r' at' attr_below ent_below (from_attr relations rel attr ent r r' at all at' ent_below before);
  each = built.each;
  before = All-weaker (λ (x : Cycle). Precedes rel attr ent x.rel.0 x.attr.0 x.ent.0)
      (λ (x : Cycle). Precedes rel (attr + 1) 0 x.rel.0 x.attr.0 x.ent.0)
      (λ x h. to_attr rel attr ent h) cycles built.before;
  ascend = built.ascend;
}

-- ---- the places of the next relation

to_rel : (rel attr ent : ℕ) {rel' attr' ent' : ℕ} → Precedes rel attr ent rel' attr' ent' → Precedes (rel + 1) 0 0 rel' attr' ent'
to_rel rel attr ent (by_rel h) = by_rel (omega arith)
to_rel rel attr ent (by_attr e h) = by_rel (omega arith)
to_rel rel attr ent (by_ent e f h) = by_rel (omega arith)

from_rel : (relations : List Relation) (rel attr ent : ℕ) (r r' : Relation) → slice_get relations rel ≡ Some r
    → length r.attrs ≤ attr
    → {rel' attr' ent' : ℕ} → slice_get relations rel' ≡ Some r' → attr' < length r'.attrs → Precedes (rel + 1) 0 0
    rel' attr' ent' → Precedes rel attr ent rel' attr' ent'
from_rel relations rel attr ent r r' at all at' below (by_rel {rel = rel'} {attr = attr'} {ent = ent'} h) =
    ⊎_elim (λ (g : rel' < rel). by_rel g)
    (λ (g : rel ≤ rel').
    let same : rel' ≡ rel = omega arith in
    let r_is : r' ≡ r = same_Some r' r (sym at' ∙ ap (slice_get relations) same ∙ at) in
    let many : length r'.attrs ≡ length r.attrs = ap (λ (x : Relation). length x.attrs) r_is in
    by_attr same (omega arith))
    (cases_lt rel' rel)
from_rel relations rel attr ent r r' at all at' below (by_attr e h) = absurd (omega arith)
from_rel relations rel attr ent r r' at all at' below (by_ent e f h) = absurd (omega arith)

-- all lists of a relation
pub relation_all : (relations : List Relation) (n : Numbers) (truths : List Bool) (rel attr : ℕ) (r : Relation)
    (c : Rankings) (cycles : List Cycle)
    → slice_get relations rel ≡ Some r → length r.attrs ≤ attr → AreBuilt relations n truths rel attr 0 c cycles
    → AreBuilt relations n truths (rel + 1) 0 0 c cycles
relation_all relations n truths rel attr r c cycles at all built = record {
  shape = built.shape;
  lists = λ rel' attr' ent' r' at' attr_below ent_below before.
      built.lists rel' attr' ent' r' at' attr_below ent_below (from_rel relations rel attr 0 r r' at all at' attr_below before);
  each = built.each;
  before = All-weaker (λ (x : Cycle). Precedes rel attr 0 x.rel.0 x.attr.0 x.ent.0)
      (λ (x : Cycle). Precedes (rel + 1) 0 0 x.rel.0 x.attr.0 x.ent.0)
      (λ x h. to_rel rel attr 0 h) cycles built.before;
  ascend = built.ascend;
}
