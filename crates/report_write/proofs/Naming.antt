-- Names that are read where they stand.
use Rattle.std.proofs.Common.{◌≡◌, ◌∙◌, ℕ, ◌<◌, List, [], length, map, Some, slice_get, get_or, sym, ap, subst}
use Rattle.std.specs.Prelude.{option_map}
use Rattle.std.proofs.lemmas.Option.{get_or_from_slice_get, same_Some, slice_get-map}
use Rattle.currency_base.specs.declared.row.Row.{Row}
use Rattle.spec_model.specs.declared.relation.Attr.{Attr}
use Rattle.spec_model.specs.declared.relation.Relation.{Relation}
use Rattle.report_write.specs.Named.{IsAttrOf, IsEntityOf, IsRowOf}
use Rattle.report_write.specs.Pieces.{attr_names, entity_names, row_names}

-- the name of the item at a place
named_at : {A : Type 0} (f : A → List ℕ) (xs : List A) (i : ℕ) (x : A) → slice_get xs i ≡ Some x → get_or (map f xs) i [] ≡ f x
named_at f xs i x at =
    get_or_from_slice_get (map f xs) i (f x) [] (slice_get-map f xs i ∙ ap (option_map f) at)

pub relation_named : (relations : List Relation) (rel : ℕ) (r : Relation) → slice_get relations rel ≡ Some r
    → get_or (map (λ (r : Relation). r.name) relations) rel [] ≡ r.name
relation_named relations rel r at = named_at (λ (r : Relation). r.name) relations rel r at

pub entity_named : (relations : List Relation) (rel ent : ℕ) (r : Relation) (bytes : List ℕ) → slice_get relations rel ≡ Some r
    → slice_get r.entities ent ≡ Some bytes → get_or (entity_names (slice_get relations rel)) ent [] ≡ bytes
entity_named relations rel ent r bytes at is = rw at (get_or_from_slice_get r.entities ent bytes [] is)

pub row_named : (relations : List Relation) (rel row : ℕ) (r : Relation) (item : Row) → slice_get relations rel ≡ Some r
    → slice_get r.rows row ≡ Some item → get_or (row_names (slice_get relations rel)) row [] ≡ item.name
row_named relations rel row r item at is = rw at (named_at (λ (row : Row). row.name) r.rows row item is)

pub attr_named : (relations : List Relation) (rel attr : ℕ) (r : Relation) (item : Attr) → slice_get relations rel ≡ Some r
    → slice_get r.attrs attr ≡ Some item → get_or (attr_names (slice_get relations rel)) attr [] ≡ item.name
attr_named relations rel attr r item at is = rw at (named_at (λ (a : Attr). a.name) r.attrs attr item is)

-- what is there is within the relation that is read
pub entity_within : (relations : List Relation) (rel ent : ℕ) (r : Relation) → slice_get relations rel ≡ Some r
    → IsEntityOf relations rel ent → ent < length r.entities
entity_within relations rel ent r at h = subst (λ (s : Relation). ent < length s.entities)
    (same_Some _ _ (sym h.is_relation ∙ at)) h.within

pub row_within : (relations : List Relation) (rel row : ℕ) (r : Relation) → slice_get relations rel ≡ Some r
    → IsRowOf relations rel row → row < length r.rows
row_within relations rel row r at h = subst (λ (s : Relation). row < length s.rows)
    (same_Some _ _ (sym h.is_relation ∙ at)) h.within

pub attr_within : (relations : List Relation) (rel attr : ℕ) (r : Relation) → slice_get relations rel ≡ Some r
    → IsAttrOf relations rel attr → attr < length r.attrs
attr_within relations rel attr r at h = subst (λ (s : Relation). attr < length s.attrs)
    (same_Some _ _ (sym h.is_relation ∙ at)) h.within
