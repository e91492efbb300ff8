-- A consistent completion has no given pair turned round.
use Rattle.std.proofs.Common.{◌≡◌, ◌∙◌, ◌<◌, ◌≤◌, ℕ, zero, suc, List, [], ◌∷◌, Contains, Some, get_or, length, slice_get, slice_index_or, sym, ap, subst, ⊎_elim, arith}
use Rattle.std.proofs.lemmas.Bool.{cases_lt}
use Rattle.std.proofs.lemmas.List.{get_or_past}
use Rattle.std.proofs.lemmas.List.Elements.{All-contains}
use Rattle.std.proofs.lemmas.Option.{get_or_from_slice_get, none-some, same_Some, slice_get_within}
use Rattle.currency_base.specs.declared.ids.RowId.{RowId}
use Rattle.currency_base.specs.declared.pair.Pair.{Pair}
use Rattle.currency_base.specs.declared.row.Row.{Row}
use Rattle.partial_orders.specs.Pairs.{entity_of}
use Rattle.spec_model.specs.Completion.{Before, HasShape, IsRanking, Rankings, lists_of, ranking_of}
use Rattle.spec_model.specs.Consistent.{IsConsistent}
use Rattle.spec_model.specs.Facts.{AreRelations, IsGivenPair, IsRelation}
use Rattle.spec_model.specs.Spec.{Spec}
use Rattle.spec_model.specs.declared.relation.Relation.{Relation}
use Rattle.edit_checks.proofs.Lists.{item_has}
use Rattle.edit_checks.specs.Stays.{IsTurned}

-- a list with an item is one of the lists
pub one_of_lists : (lists : List (List RowId)) (ent i : ℕ) (x : RowId) → slice_get (slice_index_or lists ent []) i ≡ Some x
    → ent < length lists
one_of_lists lists ent i x at =
    ⊎_elim (λ (h : ent < length lists). h)
    (λ (h : length lists ≤ ent).
    absurd (none-some x (sym (ap (λ (l : List RowId). slice_get l i) (get_or_past lists ent [] h)) ∙ at)))
    (cases_lt ent (length lists))

pub contained : {A : Type 0} (xs : List A) (i : ℕ) (x : A) → slice_get xs i ≡ Some x → Contains xs x
contained xs i x at = (i, slice_get_within xs i x at, get_or_from_slice_get xs i x x at)

-- a row stands for its entity
pub entity_of_row : (rows : List Row) (at : ℕ) (row : Row) → slice_get rows at ≡ Some row → entity_of rows at ≡ Some row.entity.0
entity_of_row [] at row is = absurd (none-some row is)
entity_of_row (r ∷ rows) zero row is = ap (λ (q : Row). Some q.entity.0) (same_Some r row is)
entity_of_row (r ∷ rows) (suc at) row is = entity_of_row rows at row is

-- a pair that is given is one of its relation
pub pair_of : (r : Relation) (p : Pair) → IsRelation r → Contains r.given p → IsGivenPair r p
pair_of r p facts given = All-contains (IsGivenPair r) r.given p facts.given given

-- the list of the entity of a row is there
pub list_there : (s : Spec) (c : Rankings) (rel : ℕ) (r : Relation) (p : Pair) (row : Row) → HasShape s.relations c
    → slice_get s.relations rel ≡ Some r → IsRelation r → p.attr.0 < length r.attrs
    → slice_get r.rows p.earlier.0 ≡ Some row → row.entity.0 < length (lists_of c rel p.attr.0)
list_there s c rel r p row shape is_relation facts attr is_row =
    let below = item_has (λ (q : Row). q.entity.0 < length r.entities) r.rows facts.entities p.earlier.0 row is_row in
    let count = shape.per_entity rel r is_relation p.attr.0 attr in
    omega (arith, below, count)

pub turned : (s : Spec) (c : Rankings) (rel : ℕ) (r : Relation) (p : Pair) (row : Row) → slice_get s.relations rel ≡ Some r
    → IsRelation r → Contains r.given p → slice_get r.rows p.earlier.0 ≡ Some row
    → IsTurned (ranking_of c rel p.attr.0 row.entity.0) p → IsConsistent s c → ⊥
turned s c rel r p row is_relation facts given is_row is consistent =
    let ent : ℕ = row.entity.0 in
    let pair = pair_of r p facts given in
    let attr = pair.attr in
    let later_of : entity_of r.rows p.later.0 ≡ Some ent =
    sym pair.one_entity.1 ∙ entity_of_row r.rows p.earlier.0 row is_row in
    let lists = lists_of c rel p.attr.0 in
    let before : Before lists p.earlier p.later = consistent.given rel r is_relation p given in
    let count = consistent.completion.shape.per_entity rel r is_relation p.attr.0 attr in
    let ranked = λ (e : ℕ) (below : e < length lists).
    consistent.completion.ranked rel r is_relation p.attr.0 e attr (omega (arith, count, below)) in
    let own : IsRanking r.rows before.ent (slice_index_or lists before.ent []) =
    ranked before.ent (one_of_lists lists before.ent before.high p.later before.second) in
    let same : before.ent ≡ ent =
    same_Some before.ent ent
    (sym (own.only p.later (contained (slice_index_or lists before.ent []) before.high p.later before.second)) ∙ later_of) in
    let here : slice_get (slice_index_or lists before.ent []) is.at ≡ Some p.later =
    subst (λ (e : ℕ). slice_get (slice_index_or lists e []) is.at ≡ Some p.later) (sym same) is.here in
    let one : is.at ≡ before.high = own.once is.at before.high p.later here before.second in
    let low : slice_get (slice_index_or lists ent []) before.low ≡ Some p.earlier =
    subst (λ (e : ℕ). slice_get (slice_index_or lists e []) before.low ≡ Some p.earlier) same before.first in
    let below = before.below in
    is.before before.low (omega (arith, one, below)) low
