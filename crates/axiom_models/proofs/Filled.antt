-- Rankings that hold given lists.
use Rattle.std.proofs.Common.{◌≡◌, ◌∙◌, ◌<◌, ℕ, zero, suc, List, [], ◌∷◌, Some, length, map, slice_get, slice_index_or, refl, ap, arith}
use Rattle.std.specs.List.{range_with_len}
use Rattle.std.proofs.lemmas.List.FromFn.{get_or-map-range_with_len, length-map-range_with_len}
use Rattle.std.proofs.lemmas.Option.{same_Some, none-some}
use Rattle.currency_base.specs.declared.ids.RowId.{RowId}
use Rattle.spec_model.specs.Completion.{HasShape, Rankings, lists_of, ranking_of}
use Rattle.spec_model.specs.declared.relation.Relation.{Relation}

-- the lists of so many entities
abbrev pub of_entities : (ℕ → List RowId) → ℕ → List (List RowId)
of_entities f many = map f (range_with_len 0 many)

-- the lists of a relation
abbrev pub of_relation : (ℕ → ℕ → List RowId) → Relation → List (List (List RowId))
of_relation f r = map (λ attr. of_entities (f attr) (length r.entities)) (range_with_len 0 (length r.attrs))

-- the lists of relations
abbrev pub filled : (ℕ → ℕ → ℕ → List RowId) → List Relation → Rankings
filled f [] = []
filled f (r ∷ relations) = of_relation (f 0) r ∷ filled (λ rel. f (suc rel)) relations

one_more : (m n : ℕ) → m ≡ n → suc m ≡ suc n
one_more m n e = ap (λ (k : ℕ). suc k) e

filled_long : (f : ℕ → ℕ → ℕ → List RowId) (relations : List Relation) → length (filled f relations) ≡ length relations
filled_long f [] = refl
filled_long f (r ∷ relations) =
    one_more (length (filled (λ rel. f (suc rel)) relations)) (length relations) (filled_long (λ rel. f (suc rel)) relations)

filled_at : (f : ℕ → ℕ → ℕ → List RowId) (relations : List Relation) (rel : ℕ) (r : Relation) → slice_get relations rel ≡ Some r
    → slice_index_or (filled f relations) rel [] ≡ of_relation (f rel) r
filled_at f [] rel r at = absurd (none-some r at)
filled_at f (first ∷ relations) zero r at = ap (of_relation (f 0)) (same_Some first r at)
filled_at f (first ∷ relations) (suc rel) r at = filled_at (λ k. f (suc k)) relations rel r at

lists_at : (f : ℕ → ℕ → ℕ → List RowId) (relations : List Relation) (rel : ℕ) (r : Relation) → slice_get relations rel ≡ Some r
    → (attr : ℕ) → attr < length r.attrs
    → lists_of (filled f relations) rel attr ≡ of_entities (f rel attr) (length r.entities)
lists_at f relations rel r at attr within =
    ap (λ (lists : List (List (List RowId))). slice_index_or lists attr []) (filled_at f relations rel r at)
    ∙ get_or-map-range_with_len (λ k. of_entities (f rel k) (length r.entities)) 0 (length r.attrs) attr attr [] within
    (omega arith)

-- one list for each relation, attribute and entity
pub filled_shape : (f : ℕ → ℕ → ℕ → List RowId) (relations : List Relation) → HasShape relations (filled f relations)
filled_shape f relations = record {
  per_relation = filled_long f relations;
  per_attr = λ rel r at.
      ap (λ (lists : List (List (List RowId))). length lists) (filled_at f relations rel r at)
      ∙ length-map-range_with_len (λ attr. of_entities (f rel attr) (length r.entities)) 0 (length r.attrs);
  per_entity = λ rel r at attr within.
      ap (λ (lists : List (List RowId)). length lists) (lists_at f relations rel r at attr within)
      ∙ length-map-range_with_len (f rel attr) 0 (length r.entities);
}

-- which is the one that is given
pub filled_read : (f : ℕ → ℕ → ℕ → List RowId) (relations : List Relation) (rel attr ent : ℕ) (r : Relation)
    → slice_get relations rel ≡ Some r → attr < length r.attrs → ent < length r.entities
    → ranking_of (filled f relations) rel attr ent ≡ f rel attr ent
filled_read f relations rel attr ent r at attr_within ent_within =
    ap (λ (lists : List (List RowId)). slice_index_or lists ent []) (lists_at f relations rel r at attr attr_within)
    ∙ get_or-map-range_with_len (f rel attr) 0 (length r.entities) ent ent [] ent_within (omega arith)
