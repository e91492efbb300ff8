-- Given pairs that are added and withdrawn.
use Rattle.std.proofs.Common.{◌≡◌, ◌&&◌, ◌∙◌, ℕ, Bool, true, false, not, eqb, cond, List, [], ◌∷◌, Option, Some, None, Ok, Err, slice_get, slice_set, get_or, refl, sym, ap}
use Rattle.std.specs.Ordering.{is_eq}
use Rattle.std.proofs.lemmas.Bool.{eqb-false, eqb-true, or_parts}
use Rattle.std.proofs.lemmas.List.{set-get_or}
use Rattle.std.proofs.lemmas.Option.{get_or_from_slice_get}
use Rattle.currency_base.specs.declared.ids.RelId.{RelId}
use Rattle.currency_base.specs.declared.ids.RowId.{RowId}
use Rattle.currency_base.specs.declared.pair.Pair.{Pair}
use Rattle.partial_orders.specs.Pairs.{entity_of, has_pair, pair_cmp, without_pair}
use Rattle.spec_limits.specs.Instances.{are_of_one_entity, is_one_entity}
use Rattle.spec_model.specs.Facts.{AddsGiven, IsGivenPair, TakesGiven, with_given, without_given}
use Rattle.spec_model.specs.Spec.{Spec}
use Rattle.spec_model.specs.declared.relation.Relation.{Relation}
use Rattle.spec_edits.specs.Edits.{IsPairOf, edited, with_relation_at}
use Rattle.spec_edits.specs.declared.edit.Edit.TheVariants.{AddGiven, WithdrawGiven}
use Rattle.spec_edits.specs.declared.fault.EditFault.TheVariants.{NotOneEntity, NotThere}
use Rattle.spec_edits.proofs.Counting.{spec_is}

and_parts : (a b : Bool) → (a && b) ≡ true → (a ≡ true) × (b ≡ true)
and_parts true b is = (refl, is)
and_parts false b is = cc

not_true : (a : Bool) → not a ≡ true → a ≡ false
not_true true is = cc
not_true false is = refl

one_entity : (a b : Option ℕ) → is_one_entity a b ≡ true → a ≡ b
one_entity (Some x) (Some y) is = ap Some (eqb-true x y is)
one_entity (Some x) None is = cc
one_entity None b is = cc

-- a pair that passes the test is a given pair
pub given_pair : (r : Relation) (p : Pair) → IsPairOf r p → are_of_one_entity r.rows p.earlier p.later ≡ true → IsGivenPair r p
given_pair r p h is =
    let parts = and_parts (not (eqb p.earlier.0 p.later.0))
    (is_one_entity (entity_of r.rows p.earlier.0) (entity_of r.rows p.later.0)) is in
    record {
      attr = h.attr;
      earlier = h.earlier;
      later = h.later;
      one_entity = (
        λ e. eqb-false p.earlier.0 p.later.0 (not_true (eqb p.earlier.0 p.later.0) parts.0)
            (ap (λ (row : RowId). row.0) e),
        one_entity (entity_of r.rows p.earlier.0) (entity_of r.rows p.later.0) parts.1,
      );
    }

-- ---- an added pair

-- the specification with one more given pair
pub giving_is : (s t : Spec) (rel : ℕ) (p : Pair) (r : Relation) → slice_get s.relations rel ≡ Some r
    → AddsGiven s.relations t.relations rel p → t.rules ≡ s.rules → t.copies ≡ s.copies
    → t ≡ with_relation_at s rel (with_given r p)
giving_is s t rel p r at adds rules copies = spec_is (with_relation_at s rel (with_given r p)) t (adds r at) rules copies

pub given_edit : (s t : Spec) (rel : RelId) (p : Pair) (r : Relation) → slice_get s.relations rel.0 ≡ Some r
    → are_of_one_entity r.rows p.earlier p.later ≡ true → t ≡ with_relation_at s rel.0 (with_given r p) → edited s (AddGiven rel p) ≡ Ok t
unfolding edited
given_edit s t rel p r at is new = rw (at, is) (ap Ok (sym new))

pub given_refused : (s : Spec) (rel : RelId) (p : Pair) (r : Relation) → slice_get s.relations rel.0 ≡ Some r
    → are_of_one_entity r.rows p.earlier p.later ≡ false → edited s (AddGiven rel p) ≡ Err NotOneEntity
unfolding edited
given_refused s rel p r at is = rw (at, is) refl

-- ---- a withdrawn pair

-- a list without what is not there
without_none : (p : Pair) (pairs : List Pair) → has_pair pairs p ≡ false → without_pair pairs p ≡ pairs
without_none p [] none = refl
without_none p (q ∷ pairs) none =
    let parts = or_parts (is_eq (pair_cmp p q)) (has_pair pairs p) none in
    ap (λ (b : Bool). cond b pairs (q ∷ without_pair pairs p)) parts.0
    ∙ ap (λ (rest : List Pair). q ∷ rest) (without_none p pairs parts.1)

pub taking_is : (s t : Spec) (rel : ℕ) (p : Pair) (r : Relation) → slice_get s.relations rel ≡ Some r
    → TakesGiven s.relations t.relations rel p → t.rules ≡ s.rules → t.copies ≡ s.copies
    → t ≡ with_relation_at s rel (without_given r p)
taking_is s t rel p r at takes rules copies = spec_is (with_relation_at s rel (without_given r p)) t (takes r at) rules copies

pub taken_edit : (s t : Spec) (rel : RelId) (p : Pair) (r : Relation) → slice_get s.relations rel.0 ≡ Some r
    → has_pair r.given p ≡ true → t ≡ with_relation_at s rel.0 (without_given r p) → edited s (WithdrawGiven rel p) ≡ Ok t
unfolding edited
taken_edit s t rel p r at is new = rw (at, is) (ap Ok (sym new))

pub taken_refused : (s : Spec) (rel : RelId) (p : Pair) (r : Relation) → slice_get s.relations rel.0 ≡ Some r
    → has_pair r.given p ≡ false → edited s (WithdrawGiven rel p) ≡ Err NotThere
unfolding edited
taken_refused s rel p r at is = rw (at, is) refl

-- where it was not there, nothing changes
pub taken_nothing : (s t : Spec) (rel : ℕ) (p : Pair) (r : Relation) → slice_get s.relations rel ≡ Some r
    → has_pair r.given p ≡ false → t ≡ with_relation_at s rel (without_given r p) → t ≡ s
taken_nothing s t rel p r at none is =
    let pairs = without_none p r.given none in
    let same : without_given r p ≡ r = ap (λ (given : List Pair). let q : Relation = record r { given = given } in q) pairs in
    let here : get_or s.relations rel r ≡ r = get_or_from_slice_get s.relations rel r r at in
    let put : slice_set s.relations rel (without_given r p) ≡ s.relations =
    ap (λ (q : Relation). slice_set s.relations rel q) (same ∙ sym here) ∙ set-get_or s.relations rel r in
    is ∙ spec_is s (with_relation_at s rel (without_given r p)) put refl refl
