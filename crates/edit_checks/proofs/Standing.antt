-- Rows of which one stands before another in a completion.
use Rattle.std.proofs.Common.{◌≡◌, ◌∙◌, ◌==◌, ◌<◌, ℕ, zero, suc, Bool, true, false, List, [], ◌∷◌, IfSome, Some, length, slice_get, refl, sym, ap, subst, arith}
use Rattle.std.proofs.lemmas.Bool.{and_from, eq-eqb, false≢true, ne_eqb, not_from_false}
use Rattle.currency_base.specs.declared.ids.RelId.{RelId}
use Rattle.currency_base.specs.declared.ids.RowId.{RowId}
use Rattle.currency_base.specs.declared.pair.Pair.{Pair}
use Rattle.currency_base.specs.declared.row.Row.{Row}
use Rattle.partial_orders.specs.Pairs.{AreOfOneEntity, entity_of}
use Rattle.spec_edits.specs.Edits.{IsPairAt}
use Rattle.spec_limits.specs.Instances.{are_of_one_entity, is_one_entity}
use Rattle.spec_model.specs.Completion.{Before, IsCompletion, IsRanking, Rankings, lists_of, ranking_of}
use Rattle.spec_model.specs.Questions.{IsAskedPair}
use Rattle.spec_model.specs.declared.question.Asked.{Asked}
use Rattle.spec_model.specs.declared.relation.Relation.{Relation}
use Rattle.edit_checks.proofs.Turned.{contained, one_of_lists}

-- ---- lists of a completion

-- a list that has a row is the ranking of an entity
pub ranked_at : (relations : List Relation) (c : Rankings) (rel : ℕ) (r : Relation) (attr ent i : ℕ) (x : RowId)
    → IsCompletion relations c → slice_get relations rel ≡ Some r → attr < length r.attrs
    → slice_get (ranking_of c rel attr ent) i ≡ Some x → IsRanking r.rows ent (ranking_of c rel attr ent)
ranked_at relations c rel r attr ent i x completion at within here =
    let count = completion.shape.per_entity rel r at attr within in
    let below = one_of_lists (lists_of c rel attr) ent i x here in
    completion.ranked rel r at attr ent within (omega (arith, count, below))

-- no row stands before itself
pub not_itself : (relations : List Relation) (c : Rankings) (rel : ℕ) (r : Relation) (attr : ℕ) (x y : RowId)
    → IsCompletion relations c → slice_get relations rel ≡ Some r → attr < length r.attrs → x ≡ y
    → Before (lists_of c rel attr) x y → ⊥
not_itself relations c rel r attr x y completion at within same before =
    let own = ranked_at relations c rel r attr before.ent before.low x completion at within before.first in
    let second : slice_get (ranking_of c rel attr before.ent) before.high ≡ Some x =
    subst (λ (z : RowId). slice_get (ranking_of c rel attr before.ent) before.high ≡ Some z) (sym same) before.second in
    let one : before.low ≡ before.high = own.once before.low before.high x before.first second in
    let below = before.below in
    absurd (omega (arith, one, below))

-- rows of which one stands before the other are different rows of one entity
pub before_asked : (relations : List Relation) (c : Rankings) (a : Asked) → IsCompletion relations c
    → IsPairAt relations a.rel.0 a.pair
    → Before (lists_of c a.rel.0 a.pair.attr.0) a.pair.earlier a.pair.later → IsAskedPair relations a
before_asked relations c a completion at before =
    let r = at.relation in
    let p = a.pair in
    let list = ranking_of c a.rel.0 p.attr.0 before.ent in
    let own = ranked_at relations c a.rel.0 r p.attr.0 before.ent before.low p.earlier completion at.is_relation at.pair.attr
    before.first in
    let earlier_of = own.only p.earlier (contained list before.low p.earlier before.first) in
    let later_of = own.only p.later (contained list before.high p.later before.second) in
    record {
      relation = r;
      is_relation = at.is_relation;
      pair = record {
        attr = at.pair.attr;
        earlier = at.pair.earlier;
        later = at.pair.later;
        one_entity = (
          λ (same : p.earlier ≡ p.later).
              not_itself relations c a.rel.0 r p.attr.0 p.earlier p.later completion at.is_relation at.pair.attr same before,
          earlier_of ∙ sym later_of,
        );
      };
    }

-- ---- the test

-- a row that is there stands for an entity
entity_there : (rows : List Row) (row : ℕ) → row < length rows → (ent : ℕ) × (entity_of rows row ≡ Some ent)
entity_there [] row below = absurd (omega arith)
entity_there (r ∷ rows) zero below = (r.entity.0, refl)
entity_there (r ∷ rows) (suc row) below = entity_there rows row (omega arith)

one_from : (ent : ℕ) → is_one_entity (Some ent) (Some ent) ≡ true
one_from ent = eq-eqb ent ent refl

are_of_one : (rows : List Row) (p : Pair) → p.earlier.0 < length rows → AreOfOneEntity rows p → are_of_one_entity rows p.earlier p.later ≡ true
are_of_one rows p below one =
    let there = entity_there rows p.earlier.0 below in
    and_from _ _
    (not_from_false (p.earlier.0 == p.later.0) (ne_eqb p.earlier.0 p.later.0
    (λ (e : p.earlier.0 ≡ p.later.0). one.0 (ap (λ (n : ℕ). let x : RowId = record { 0 = n } in x) e))))
    (ap (λ o. is_one_entity o (entity_of rows p.later.0)) there.1
    ∙ (ap (is_one_entity (Some there.0)) (sym one.1 ∙ there.1) ∙ one_from there.0))

-- a pair whose rows are told not to be so cannot be asked about
pub not_asked : (relations : List Relation) (rel : RelId) (p : Pair) (told : Bool)
    → IfSome (slice_get relations rel.0) (λ r. told ≡ are_of_one_entity r.rows p.earlier p.later) → told ≡ false
    → IsAskedPair relations (record { rel = rel; pair = p }) → ⊥
not_asked relations rel p told is none asked =
    let here : told ≡ are_of_one_entity asked.relation.rows p.earlier p.later = rw asked.is_relation at is in
    false≢true (sym none ∙ (here ∙ are_of_one asked.relation.rows p asked.pair.earlier asked.pair.one_entity))
