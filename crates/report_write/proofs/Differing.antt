-- Completions with no row where another one has the same.
use Rattle.std.proofs.Common.{◌≡◌, ◌∙◌, ℕ, List, [], length, get_or, refl, ap, All, arith}
use Rattle.std.specs.Prelude.{if◌then◌else◌, Bool, true, false}
use Rattle.completion_fill.specs.Alike.{AreAlike}
use Rattle.completion_fill.specs.Filled.{merged}
use Rattle.completion_fill.proofs.Merged.{get_or-merged, length-merged}
use Rattle.completion_fill.proofs.Shapes.{alike}
use Rattle.currency_base.specs.declared.ids.RowId.{RowId}
use Rattle.spec_model.specs.Completion.{Rankings, HasShape, lists_of, ranking_of}
use Rattle.spec_model.specs.declared.relation.Relation.{Relation}
use Rattle.report_write.specs.Named.{IsRowOf}
use Rattle.report_write.specs.Pieces.{differing, list_unless, same_rows}
use Rattle.report_write.specs.Shown.{AreOn}
use Rattle.report_model.specs.Writable.{IsWritableCompletion}

-- what stands at a place, relation by relation, then attribute by attribute, then list by list
differing_attrs : (first c : Rankings) (rel : ℕ) → AreAlike first c
    → get_or (differing first c) rel [] ≡ merged (merged list_unless) (get_or first rel []) (get_or c rel [])
differing_attrs first c rel h = get_or-merged (merged (merged list_unless)) first c rel [] refl h.per_relation

differing_lists : (first c : Rankings) (rel attr : ℕ) → AreAlike first c
    → lists_of (differing first c) rel attr ≡ merged list_unless (lists_of first rel attr) (lists_of c rel attr)
differing_lists first c rel attr h =
    ap (λ (attrs : List (List (List RowId))). get_or attrs attr []) (differing_attrs first c rel h)
    ∙ get_or-merged (merged list_unless) (get_or first rel []) (get_or c rel []) attr [] refl (h.per_attr rel)

differing_list : (first c : Rankings) (rel attr ent : ℕ) → AreAlike first c
    → ranking_of (differing first c) rel attr ent ≡ list_unless (ranking_of first rel attr ent) (ranking_of c rel attr ent)
differing_list first c rel attr ent h =
    ap (λ (lists : List (List RowId)). get_or lists ent []) (differing_lists first c rel attr h)
    ∙ get_or-merged list_unless (lists_of first rel attr) (lists_of c rel attr) ent [] refl (h.per_entity rel attr)

-- a list that is the same is left out, and another one stays
pub left_out : (first c : Rankings) (rel attr ent : ℕ) → AreAlike first c
    → same_rows (ranking_of first rel attr ent) (ranking_of c rel attr ent) ≡ true → ranking_of (differing first c)
    rel attr ent ≡ []
left_out first c rel attr ent h same =
    differing_list first c rel attr ent h ∙ ap (λ (b : Bool). if b then [] else ranking_of c rel attr ent) same

pub stays : (first c : Rankings) (rel attr ent : ℕ) → AreAlike first c
    → same_rows (ranking_of first rel attr ent) (ranking_of c rel attr ent) ≡ false
    → ranking_of (differing first c) rel attr ent ≡ ranking_of c rel attr ent
stays first c rel attr ent h other =
    differing_list first c rel attr ent h ∙ ap (λ (b : Bool). if b then [] else ranking_of c rel attr ent) other

-- there are as many relations, attributes and entities
pub same_relations : (first c : Rankings) → AreAlike first c → length (differing first c) ≡ length c
same_relations first c h = length-merged (merged (merged list_unless)) first c h.per_relation

pub same_attrs : (first c : Rankings) (rel : ℕ) → AreAlike first c → length (get_or (differing first c) rel []) ≡
    length (get_or c rel [])
same_attrs first c rel h =
    ap length (differing_attrs first c rel h) ∙ length-merged (merged list_unless) (get_or first rel [])
    (get_or c rel []) (h.per_attr rel)

pub same_entities : (first c : Rankings) (rel attr : ℕ) → AreAlike first c
    → length (lists_of (differing first c) rel attr) ≡ length (lists_of c rel attr)
same_entities first c rel attr h =
    ap length (differing_lists first c rel attr h) ∙ length-merged list_unless (lists_of first rel attr)
    (lists_of c rel attr) (h.per_entity rel attr)

-- the shape stays
pub differing_shape : (relations : List Relation) (first c : Rankings) → AreAlike first c → HasShape relations c
    → HasShape relations (differing first c)
differing_shape relations first c h shape = record {
  per_relation = same_relations first c h ∙ shape.per_relation;
  per_attr = λ rel r at. same_attrs first c rel h ∙ shape.per_attr rel r at;
  per_entity = λ rel r at attr below. same_entities first c rel attr h ∙ shape.per_entity rel r at attr below;
}

-- a list that is left out where it is another one has no other rows
rows_unless : (P : RowId → Type 0) (first list : List RowId) → All P list → All P (list_unless first list)
rows_unless P first list all = chosen (same_rows first list)
  where
    chosen : (same : Bool) → All P (if same then [] else list)
    chosen true = λ k d below. absurd (omega arith)
    chosen false = all

-- what differs is on the same relations
pub differing_on : (relations : List Relation) (first c : Rankings) → HasShape relations first → AreOn relations c
    → AreOn relations (differing first c)
differing_on relations first c of_first h =
    let both = alike relations first c of_first h.shape in
    record {
      shape = differing_shape relations first c both h.shape;
      rows = λ rel attr ent r at. rw (differing_list first c rel attr ent both)
          (rows_unless (λ row. IsRowOf relations rel row.0) _ _ (h.rows rel attr ent r at));
    }

-- a completion that can be written is on its relations
pub writable_on : (relations : List Relation) (c : Rankings) → IsWritableCompletion relations c → AreOn relations c
writable_on relations c h = record {
  shape = h.shape;
  rows = λ rel attr ent r at k d below. record {
    relation = r;
    is_relation = at;
    within =
        (h.rows rel attr ent r at).each k d below;
  };
}
