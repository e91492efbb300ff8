-- Completions of all parts as one of the whole: each list is that of the part that has the entity.
use Rattle.std.proofs.Common.{◌≡◌, ◌<◌, ◌∙◌, ℕ, true, List, [], Option, Some, None, option_map, map, length, slice_get, slice_index_or, sym, ap, subst}
use Rattle.std.proofs.lemmas.Option.{get_or_from_slice_get, slice_get-map, slice_get_within}
use Rattle.currency_base.specs.declared.ids.RowId.{RowId}
use Rattle.part_join.specs.Fits.{CompletionsFit}
use Rattle.part_laws.specs.Parts.{Places, rows_in, entities_in, whole_row, IsPartOf, IsNarrowed}
use Rattle.part_laws.proofs.Cuts.{Parted, IsParted}
use Rattle.part_laws.proofs.Rows.{all_at, at_place}
use Rattle.part_narrow.proofs.MadeRankings.{listed, as_many, made_at}
use Rattle.spec_model.specs.Completion.{Rankings, lists_of, ranking_of, HasShape}
use Rattle.spec_model.specs.Facts.{IsSpecification}
use Rattle.spec_model.specs.Spec.{Spec}
use Rattle.spec_model.specs.declared.relation.Relation.{Relation}
use Rattle.many_parts.specs.ManyParts.{Part, ArePartsOf}
use Rattle.many_parts.proofs.FirstPlaces.{first_place, found_first, entity_place, entity_at}
use Rattle.many_parts.proofs.Chosen.{AreChosen}

-- ---- the rankings

-- a specification, parts of it, and rankings of each
pub record Pieces : Type 0 where
  pub s : Spec
  pub parts : List Part
  pub chosen : ℕ → Rankings

-- a list of a part, in the rows of the whole
abbrev widened : Places → Rankings → ℕ → ℕ → ℕ → List RowId
widened n narrow rel attr ent =
    map (whole_row (rows_in n rel)) (ranking_of narrow rel attr (entity_place (entities_in n rel) ent))

-- the first of the parts that have an entity
abbrev holder : List Part → ℕ → ℕ → ℕ
holder parts rel ent = first_place (λ (p : Part). p.scope rel ent) parts

abbrev places_at : List Part → ℕ → Places
places_at parts i = slice_index_or (map (λ (p : Part). p.places) parts) i (record { rows = []; entities = [] })

abbrev ranking_made : Pieces → ℕ → ℕ → ℕ → List RowId
ranking_made b rel attr ent =
    widened (places_at b.parts (holder b.parts rel ent)) (b.chosen (holder b.parts rel ent)) rel attr ent

abbrev many_attrs : Option Relation → ℕ
many_attrs None = 0
many_attrs (Some r) = length r.attrs

abbrev many_entities : Option Relation → ℕ
many_entities None = 0
many_entities (Some r) = length r.entities

abbrev lists_made : Pieces → ℕ → ℕ → List (List RowId)
lists_made b rel attr = listed (ranking_made b rel attr) (many_entities (slice_get b.s.relations rel))

abbrev relation_made : Pieces → ℕ → List (List (List RowId))
relation_made b rel = listed (lists_made b rel) (many_attrs (slice_get b.s.relations rel))

abbrev pub all_joined : Pieces → Rankings
all_joined b = listed (relation_made b) (length b.s.relations)

-- ---- what stands at each place

at_relation : (b : Pieces) (rel : ℕ) (r : Relation) → slice_get b.s.relations rel ≡ Some r
    → slice_index_or (all_joined b) rel [] ≡ relation_made b rel
at_relation b rel r at = made_at (relation_made b) (length b.s.relations) rel [] (slice_get_within b.s.relations rel r at)

at_attr : (b : Pieces) (rel : ℕ) (r : Relation) (attr : ℕ) → slice_get b.s.relations rel ≡ Some r → attr < length r.attrs
    → lists_of (all_joined b) rel attr ≡ lists_made b rel attr
at_attr b rel r attr at inside =
    let many = ap many_attrs at in
    ap (λ (l : List (List (List RowId))). slice_index_or l attr []) (at_relation b rel r at)
    ∙ made_at (lists_made b rel) (many_attrs (slice_get b.s.relations rel)) attr []
    (subst (λ (m : ℕ). attr < m) (sym many) inside)

at_entity : (b : Pieces) (rel : ℕ) (r : Relation) (attr ent : ℕ) → slice_get b.s.relations rel ≡ Some r
    → attr < length r.attrs → ent < length r.entities
    → ranking_of (all_joined b) rel attr ent ≡ ranking_made b rel attr ent
at_entity b rel r attr ent at inside below =
    ap (λ (l : List (List RowId)). slice_index_or l ent []) (at_attr b rel r attr at inside)
    ∙ made_at (ranking_made b rel attr) (many_entities (slice_get b.s.relations rel)) ent []
    (subst (λ (m : ℕ). ent < m) (sym (ap many_entities at)) below)

pub shape_joined : (b : Pieces) → HasShape b.s.relations (all_joined b)
shape_joined b = record {
  per_relation = as_many (relation_made b) (length b.s.relations);
  per_attr = λ rel r at.
      ap (λ (l : List (List (List RowId))). length l) (at_relation b rel r at)
      ∙ (as_many (lists_made b rel) (many_attrs (slice_get b.s.relations rel)) ∙ ap many_attrs at);
  per_entity = λ rel r at attr inside.
      ap (λ (l : List (List RowId)). length l) (at_attr b rel r attr at inside)
      ∙ (as_many (ranking_made b rel attr) (many_entities (slice_get b.s.relations rel)) ∙ ap many_entities at);
}

-- ---- each part

-- parts of the specification, and a consistent completion of each
pub record ArePieces (b : Pieces) : Type 0 where
  pub whole_is : IsSpecification b.s
  pub are : ArePartsOf b.s b.parts
  pub chosen : AreChosen b.parts b.chosen

pub part_of : (b : Pieces) (i : ℕ) (p : Part) → ArePieces b → slice_get b.parts i ≡ Some p
    → IsPartOf b.s p.scope p.places p.spec
part_of b i p is at = all_at (λ (q : Part). IsPartOf b.s q.scope q.places q.spec) b.parts i p is.are.each at

-- the part at this place is the first that has an entity of it
held : (b : Pieces) (i : ℕ) (p : Part) (rel : ℕ) (r : Relation) (ent : ℕ) → ArePieces b → slice_get b.parts i ≡ Some p
    → slice_get b.s.relations rel ≡ Some r → ent < length r.entities → p.scope rel ent ≡ true
    → holder b.parts rel ent ≡ i
held b i p rel r ent is at at_r below scoped =
    let found = found_first Part (λ (q : Part). q.scope rel ent) b.parts i p at scoped in
    is.are.disjoint rel r at_r ent below (holder b.parts rel ent) i
    (record { part = found.item; is_part = found.is_item; is_in = found.passes })
    (record { part = p; is_part = at; is_in = scoped })

places_are : (parts : List Part) (i : ℕ) (p : Part) → slice_get parts i ≡ Some p → places_at parts i ≡ p.places
places_are parts i p at =
    let none : Places = record { rows = []; entities = [] } in
    get_or_from_slice_get (map (λ (q : Part). q.places) parts) i p.places none
    (slice_get-map (λ (q : Part). q.places) parts i ∙ ap (option_map (λ (q : Part). q.places)) at)

-- what is joined says of each part's rows what the part's completion says
pub narrowed_joined : CompletionsFit → (b : Pieces) (i : ℕ) (p : Part) → ArePieces b → slice_get b.parts i ≡ Some p
    → IsNarrowed b.s.relations p.places (all_joined b) (b.chosen i)
narrowed_joined fit b i p is at = record {
  within = (fit b.s p.scope p.places p.spec (b.chosen i) of (is.chosen i p at).completion).within;
  same = λ rel r at_r attr inside k ent is_ent.
      let among = (of.places.entities rel r at_r ent).0 (at_place (entities_in p.places rel) k ent is_ent) in
      at_entity b rel r attr ent.0 at_r inside among.0
      ∙ (ap (λ (m : ℕ). widened (places_at b.parts m) (b.chosen m) rel attr ent.0)
      (held b i p rel r ent.0 is at at_r among.0 among.1)
      ∙ (ap (λ (n : Places). widened n (b.chosen i) rel attr ent.0) (places_are b.parts i p at)
      ∙ ap (λ (m : ℕ). map (whole_row (rows_in p.places rel)) (ranking_of (b.chosen i) rel attr m))
      (entity_at (entities_in p.places rel) k ent (of.places.entities_ascend rel) is_ent)));
}
  where
    of : IsPartOf b.s p.scope p.places p.spec
    of = part_of b i p is at

-- so it is a part with rankings of both
abbrev pub parted_at : Pieces → ℕ → Part → Parted
parted_at b i p = record {
  s = b.s;
  scope = p.scope;
  n = p.places;
  part = p.spec;
  c = all_joined b;
  narrow = b.chosen i;
}

pub is_parted : CompletionsFit → (b : Pieces) (i : ℕ) (p : Part) → ArePieces b → slice_get b.parts i ≡ Some p
    → IsParted (parted_at b i p)
is_parted fit b i p is at = record {
  whole_is = is.whole_is;
  of = part_of b i p is at;
  shape = (is.chosen i p at).completion.shape;
  narrowed = narrowed_joined fit b i p is at;
}
