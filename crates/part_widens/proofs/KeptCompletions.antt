-- Completions are those of the relations with some of their given pairs.
use Rattle.std.proofs.Common.{◌≡◌, ◌<◌, ◌∙◌, ℕ, true, List, [], Some, length, map, slice_get, slice_index_or, sym, subst}
use Rattle.currency_base.specs.declared.ids.EntId.{EntId}
use Rattle.part_items.proofs.KeptPlaces.{relation_of, as_many_relations}
use Rattle.part_laws.specs.Parts.{Scope, Places, rows_in, entities_in, whole_row, IsNarrowed, AreSameBeyond}
use Rattle.spec_items.specs.Kept.{Keeps, kept_relations}
use Rattle.spec_model.specs.Completion.{Rankings, lists_of, ranking_of, HasShape, IsRanking, IsCompletion}
use Rattle.spec_model.specs.declared.relation.Relation.{Relation}
use Rattle.part_widens.proofs.KeptSpec.{kept_there}

module _ (keeps : Keeps) (rs : List Relation) where
  -- ---- of all given pairs

  pub shape_whole : (c : Rankings) → HasShape (kept_relations keeps 0 rs) c → HasShape rs c
  shape_whole c is = record {
    per_relation = is.per_relation ∙ as_many_relations keeps 0 rs;
    per_attr = λ rel r at. let k = kept_there keeps 0 rs rel r at in is.per_attr rel (record r { given = k.0 }) k.1;
    per_entity = λ rel r at. let k = kept_there keeps 0 rs rel r at in is.per_entity rel (record r { given = k.0 }) k.1;
  }

  pub completion_whole : (c : Rankings) → IsCompletion (kept_relations keeps 0 rs) c → IsCompletion rs c
  completion_whole c is = record {
    shape = shape_whole c is.shape;
    ranked = λ rel r at. let k = kept_there keeps 0 rs rel r at in is.ranked rel (record r { given = k.0 }) k.1;
  }

  -- ---- of those that are kept

  pub shape_kept : (c : Rankings) → HasShape rs c → HasShape (kept_relations keeps 0 rs) c
  shape_kept c is = record {
    per_relation = is.per_relation ∙ sym (as_many_relations keeps 0 rs);
    per_attr = λ rel r at.
        let of = relation_of keeps rs rel r at in
        subst (λ (q : Relation). length (slice_index_or c rel []) ≡ length q.attrs) of.2 (is.per_attr rel of.0 of.1);
    per_entity = λ rel r at.
        let of = relation_of keeps rs rel r at in
        subst (λ (q : Relation). (attr : ℕ) → attr < length q.attrs → length (lists_of c rel attr) ≡ length q.entities) of.2
        (is.per_entity rel of.0 of.1);
  }

  pub completion_kept : (c : Rankings) → IsCompletion rs c → IsCompletion (kept_relations keeps 0 rs) c
  completion_kept c is = record {
    shape = shape_kept c is.shape;
    ranked = λ rel r at.
        let of = relation_of keeps rs rel r at in
        subst
        (λ (q : Relation). (attr ent : ℕ) → attr < length q.attrs → ent < length q.entities
        → IsRanking q.rows ent (ranking_of c rel attr ent))
        of.2 (is.ranked rel of.0 of.1);
  }

  pub narrowed_kept : (n : Places) (c narrow : Rankings) → IsNarrowed rs n c narrow
      → IsNarrowed (kept_relations keeps 0 rs) n c narrow
  narrowed_kept n c narrow is = record {
    within = is.within;
    same = λ rel r at.
        let of = relation_of keeps rs rel r at in
        subst
        (λ (q : Relation). (attr : ℕ) → attr < length q.attrs → (k : ℕ) (ent : EntId)
        → slice_get (entities_in n rel) k ≡ Some ent
        → ranking_of c rel attr ent.0 ≡ map (whole_row (rows_in n rel)) (ranking_of narrow rel attr k))
        of.2 (is.same rel of.0 of.1);
  }

  pub beyond_kept : (scope : Scope) (c other : Rankings) → AreSameBeyond rs scope c other
      → AreSameBeyond (kept_relations keeps 0 rs) scope c other
  beyond_kept scope c other same rel r at =
      let of = relation_of keeps rs rel r at in
      subst
      (λ (q : Relation). (attr ent : ℕ) → attr < length q.attrs → ent < length q.entities → (scope rel ent ≡ true → ⊥)
      → ranking_of c rel attr ent ≡ ranking_of other rel attr ent)
      of.2 (same rel of.0 of.1)
