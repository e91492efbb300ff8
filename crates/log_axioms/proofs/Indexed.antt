-- What the index of entities holds, and the relation of a place.
use Rattle.std.proofs.Common.{◌≡◌, ◌∙◌, refl, sym, subst, ◌<◌, ℕ, List, [], ◌∷◌, length, Option, Some, None, slice_get}
use Rattle.std.specs.List.{list_all}
use Rattle.std.proofs.lemmas.List.Elements.{All-get_or}
use Rattle.std.proofs.lemmas.Option.{get_or_from_slice_get, slice_get_within}
use Rattle.currency_base.specs.declared.ids.RowId.{RowId}
use Rattle.currency_base.specs.declared.row.Row.{Row}
use Rattle.partial_orders.specs.Pairs.{entity_of}
use Rattle.spec_model.specs.Facts.{IsRelation, AreRelations}
use Rattle.spec_model.specs.declared.relation.Relation.{Relation}
use Rattle.entity_rows.specs.Members.{AreEntityRows}
use Rattle.log_axioms.specs.Axioms.{of_one_entity, same_entity}
use Rattle.log_axioms.specs.Entities.{AreIndexed, AreOwn}

-- the relation at a place keeps what relations keep
pub relation_at : (relations : List Relation) (rel : ℕ) (r : Relation) → AreRelations relations → slice_get relations
    rel ≡ Some r → IsRelation r
relation_at relations rel r are at =
    subst IsRelation (get_or_from_slice_get relations rel r r at)
    (All-get_or IsRelation relations rel r (slice_get_within relations rel r at) are.each)

-- the entity of a row is one of the relation's
pub entity_within : (r : Relation) (row ent : ℕ) → IsRelation r → entity_of r.rows row ≡ Some ent → ent < length r.entities
entity_within r row ent facts of = by (slice_get r.rows row) refl of
  where
    by : (found : Option Row) → slice_get r.rows row ≡ found → entity_of r.rows row ≡ Some ent → ent < length r.entities
    by None e h = absurd (let gone : entity_of r.rows row ≡ None = rw e refl in cc)
    by (Some x) e h =
        let is : x.entity.0 ≡ ent = (let there : entity_of r.rows row ≡ Some x.entity.0 = rw e refl in cc) in
        let below = All-get_or (λ row. row.entity.0 < length r.entities) r.rows row x
        (slice_get_within r.rows row x e) facts.entities in
        let same : slice_get r.rows row ≡ Some x = e in
        subst (λ n. n < length r.entities) is (subst (λ q. q.entity.0 < length r.entities)
        (get_or_from_slice_get r.rows row x x e) below)

-- the rows that the index has for an entity are its rows
pub own_at : (r : Relation) (lists : List (List RowId)) (row : RowId) (ent : ℕ) (own : List RowId) → IsRelation r
    → AreEntityRows r.rows (length r.entities) lists → entity_of r.rows row.0 ≡ Some ent → slice_get lists ent ≡ Some
    own → AreOwn r.rows row own
own_at r lists row ent own facts are of at =
    record {
      ent = ent;
      of_entity = of;
      are = sym (get_or_from_slice_get lists ent own [] at) ∙ are.each ent
          (entity_within r row.0 ent facts of);
    }

-- the lists of a relation
pub indexed_at : (relations : List Relation) (index : List (List (List RowId))) (rel : ℕ) (lists : List (List RowId))
    (r : Relation)
    → AreIndexed relations index → slice_get index rel ≡ Some lists → slice_get relations rel ≡ Some r
    → AreEntityRows r.rows (length r.entities) lists
indexed_at relations index rel lists r are at here =
    subst (AreEntityRows r.rows (length r.entities)) (get_or_from_slice_get index rel lists [] at) (are.each rel r here)

-- all rows are of one entity where each is of the first one's
pub one_entity_by_first : (table : List Row) (rows : List RowId) (first : RowId) → slice_get rows 0 ≡ Some first
    → of_one_entity table rows ≡ list_all (same_entity table first) rows
one_entity_by_first table [] first e = cc
one_entity_by_first table (row ∷ rows) first e = cc
