-- A pair, and the same pair turned round.
use Rattle.std.proofs.Common.{◌≡◌, ◌∙◌, ⊎_elim, ℕ, zero, suc, List, [], ◌∷◌, Some, length, slice_get, sym, ap}
use Rattle.std.proofs.lemmas.Option.{none-some, same_Some}
use Rattle.axiom_laws.proofs.Decisions.{row_is}
use Rattle.axiom_laws.proofs.Standing.{AreTwo, either_before, entity_in, not_both_ways}
use Rattle.currency_base.specs.declared.row.Row.{Row}
use Rattle.partial_orders.specs.Pairs.{entity_of}
use Rattle.report_verify.specs.Right.{PairHolds}
use Rattle.spec_model.specs.Completion.{Before, IsCompletion, Rankings, lists_of}
use Rattle.spec_model.specs.Facts.{AreRelations, IsRelation}
use Rattle.spec_model.specs.Questions.{IsAskedPair}
use Rattle.spec_model.specs.declared.question.Asked.{Asked}
use Rattle.spec_model.specs.declared.relation.Relation.{Relation}
use Rattle.possible_values.specs.Candidates.{turned}
use Rattle.possible_values.proofs.Lists.{item_at, item_has}

-- a pair that is turned round can be asked about too
pub turned_asked : (relations : List Relation) (p : Asked) → IsAskedPair relations p → IsAskedPair relations (turned p)
turned_asked relations p is = record {
  relation = is.relation;
  is_relation = is.is_relation;
  pair = record {
    attr = is.pair.attr;
    earlier = is.pair.later;
    later = is.pair.earlier;
    one_entity = ((λ same. is.pair.one_entity.0 (sym same)), sym is.pair.one_entity.1);
  };
}

-- a row stands for its entity
of_entity : (rows : List Row) (n : ℕ) (row : Row) → slice_get rows n ≡ Some row → entity_of rows n ≡ Some row.entity.0
of_entity [] n row at = absurd (none-some row at)
of_entity (r ∷ rows) zero row at = ap (λ (q : Row). Some q.entity.0) (same_Some r row at)
of_entity (r ∷ rows) (suc n) row at = of_entity rows n row at

-- the two rows of a pair
two_of : (relations : List Relation) → AreRelations relations → (p : Asked) → IsAskedPair relations p
    → AreTwo relations p.rel.0 p.pair.attr.0 p.pair.earlier p.pair.later
two_of relations are p is =
    let r = is.relation in
    let fits = item_has IsRelation relations are.each p.rel.0 r is.is_relation in
    let one = item_at r.rows p.pair.earlier.0 is.pair.earlier in
    let of = of_entity r.rows p.pair.earlier.0 one.0 one.1 in
    record {
      relation = r;
      is_relation = is.is_relation;
      attr_in = is.pair.attr;
      ent = one.0.entity.0;
      ent_in = entity_in r.rows (length r.entities) p.pair.earlier.0 one.0.entity.0 fits.entities of;
      first_of = of;
      second_of = sym is.pair.one_entity.1 ∙ of;
      differ = λ same. is.pair.one_entity.0 (row_is p.pair.earlier p.pair.later same);
    }

-- a pair does not hold together with the one turned round
pub not_both : (relations : List Relation) (c : Rankings) (p : Asked) → IsCompletion relations c → PairHolds (turned p) c
    → PairHolds p c → ⊥
not_both relations c p completion other own =
    not_both_ways relations c p.rel.0 p.pair.attr.0 p.pair.earlier p.pair.later completion own other

-- it holds where that one does not
pub one_holds : (relations : List Relation) → AreRelations relations → (c : Rankings) (p : Asked) → IsCompletion relations c
    → IsAskedPair relations p → (PairHolds (turned p) c → ⊥) → PairHolds p c
one_holds relations are c p completion is fails =
    ⊎_elim (λ (own : Before (lists_of c p.rel.0 p.pair.attr.0) p.pair.earlier p.pair.later). own)
    (λ (other : Before (lists_of c p.rel.0 p.pair.attr.0) p.pair.later p.pair.earlier). absurd (fails other))
    (either_before relations c p.rel.0 p.pair.attr.0 p.pair.earlier p.pair.later completion (two_of relations are p is))
