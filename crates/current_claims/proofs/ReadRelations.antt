-- A relation that is read at its place.
use Rattle.std.proofs.Common.{◌≡◌, ◌<◌, ◌≤◌, ℕ, List, Some, get_or, length, slice_get, ap, subst, ◌∙◌, arith}
use Rattle.std.proofs.lemmas.List.Elements.{All-get_or}
use Rattle.std.proofs.lemmas.Option.{get_or_from_slice_get, slice_get-get_or, slice_get_within}
use Rattle.current_tuples.specs.Places.{IsEntityOf, IsPlaceOf}
use Rattle.spec_model.specs.Facts.{AreRelations, IsRelation}
use Rattle.spec_model.specs.declared.relation.Relation.{Relation}

-- a number of what is read is that of the relation
pub read_of : (f : Relation → ℕ) (relations read : List Relation) (rel : ℕ) (own r : Relation) (n : ℕ) → read ≡ relations
    → n ≡ f (get_or read rel own) → slice_get relations rel ≡ Some r → n ≡ f r
read_of f relations read rel own r n same is at =
    is ∙ ap (λ (rs : List Relation). f (get_or rs rel own)) same ∙ ap f (get_or_from_slice_get relations rel r own at)

-- an entity below the number that is read
pub entity_read : (relations read : List Relation) (rel ent : ℕ) (own : Relation) (n : ℕ) → read ≡ relations
    → rel < length relations
    → n ≡ length (get_or read rel own).entities → ent < n → IsEntityOf relations rel ent
entity_read relations read rel ent own n same there is below =
    let at = slice_get-get_or relations rel own there in
    let all : n ≡ length (get_or relations rel own).entities =
    read_of (λ (r : Relation). length r.entities) relations read rel own (get_or relations rel own) n same is at in
    record { relation = get_or relations rel own; is_relation = at; ent_within = omega arith }

-- an attribute of an entity that is there, below the number that is read
pub place_read : (relations read : List Relation) (rel attr ent : ℕ) (own : Relation) (n : ℕ) → read ≡ relations
    → IsEntityOf relations rel ent
    → n ≡ length (get_or read rel own).attrs → attr < n → IsPlaceOf relations rel attr ent
place_read relations read rel attr ent own n same entity is below =
    let all : n ≡ length entity.relation.attrs =
    read_of (λ (r : Relation). length r.attrs) relations read rel own entity.relation n same is entity.is_relation in
    record {
      relation = entity.relation;
      is_relation = entity.is_relation;
      attr_within = omega arith;
      ent_within =
          entity.ent_within;
    }

-- a relation has few attributes
pub few_attrs : (relations : List Relation) (rel : ℕ) (r : Relation) → AreRelations relations → slice_get relations rel ≡ Some r
    → length r.attrs ≤ 4294967294
few_attrs relations rel r are at =
    let is : IsRelation r =
    subst IsRelation (get_or_from_slice_get relations rel r r at)
    (All-get_or IsRelation relations rel r (slice_get_within relations rel r at) are.each) in
    omega (arith, is.few_attrs)
