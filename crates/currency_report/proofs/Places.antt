-- The places that names name, found by the names of a specification's parts.
use Rattle.std.proofs.Common.{◌≡◌, ◌∙◌, ◌<◌, ◌^◌, ℕ, List, [], ◌∷◌, map, length, Option, Some, None, slice_get, option_map, refl, sym, ap, subst, arith}
use Rattle.std.proofs.lemmas.List.{length-map}
use Rattle.std.proofs.lemmas.List.Elements.{All-get_or}
use Rattle.std.proofs.lemmas.List.Quantifiers.{position-Some}
use Rattle.std.proofs.lemmas.Option.{get_or_from_slice_get, slice_get_within, slice_get-map}
use Rattle.std.specs.Str.{bytes_eq}
use Rattle.spec_model.specs.Spec.{Spec}
use Rattle.spec_model.specs.Facts.{IsRelation, AreRelations}
use Rattle.spec_model.specs.declared.relation.Relation.{Relation}
use Rattle.spec_names.specs.NameLists.{NameLists}
use Rattle.spec_names.specs.Names.{names_of, all_names_of, place_of}
use Rattle.spec_names.specs.declared.names.RelationNames.{RelationNames}
use Rattle.text_grammar.specs.declared.named.Named.{Named}
use Rattle.currency_report.specs.Ids.{IsAttrOf, IsEntityOf, IsPlaceOf, row_among, rows_among}
use Rattle.currency_report.specs.Places.{row_named, rows_named}

-- what a mapped option is of
mapped_from : {A B : Type 0} (f : A → B) (o : Option A) (y : B) → option_map f o ≡ Some y → (x : A) × (o ≡ Some x) × (y ≡ f x)
mapped_from f None y h = cc
mapped_from f (Some x) y h = (x, refl, cc)

-- the relation whose parts have these names
named_relation : (relations : List Relation) (rel : ℕ) (parts : RelationNames) → slice_get (map names_of relations)
    rel ≡ Some parts
    → (r : Relation) × (slice_get relations rel ≡ Some r) × (parts ≡ names_of r)
named_relation relations rel parts h =
    mapped_from names_of (slice_get relations rel) parts (sym (slice_get-map names_of relations rel) ∙ h)

-- a relation of a specification is one
is_relation_at : (relations : List Relation) (rel : ℕ) (r : Relation) → AreRelations relations → slice_get relations
    rel ≡ Some r → IsRelation r
is_relation_at relations rel r h at =
    subst IsRelation (get_or_from_slice_get relations rel r r at)
    (All-get_or IsRelation relations rel r (slice_get_within relations rel r at) h.each)

-- a place that is found is one of the list's
place_within : (names : List (List ℕ)) (name : List ℕ) (i : ℕ) → Some i ≡ place_of names name → i < length names
place_within names name i h = (position-Some (bytes_eq name) names i [] (sym h)).0

-- how many names the parts of a relation have
record HasFewNames (parts : RelationNames) : Type 0 where
  attrs : length parts.attrs < 2 ^ 32
  rows : length parts.rows < 2 ^ 32
  entities : length parts.entities < 2 ^ 32

few_names_of : (r : Relation) → IsRelation r → HasFewNames (names_of r)
few_names_of r h = record {
  attrs = rw length-map (omega (arith, h.few_attrs));
  rows = rw length-map (omega (arith, h.few_rows));
  entities = omega (arith, h.few_entities);
}

few_names : (s : Spec) (names : NameLists) (rel : ℕ) (parts : RelationNames) → AreRelations s.relations → names ≡ all_names_of s
    → slice_get names.each rel ≡ Some parts → HasFewNames parts
few_names s names rel parts is same at =
    let found = named_relation s.relations rel parts (rw same at at) in
    rw found.2 (few_names_of found.0 (is_relation_at s.relations rel found.0 is found.1))

pub few_rows : (s : Spec) (names : NameLists) (rel : ℕ) (parts : RelationNames) → AreRelations s.relations
    → names ≡ all_names_of s
    → slice_get names.each rel ≡ Some parts → length parts.rows < 2 ^ 32
few_rows s names rel parts is same at = (few_names s names rel parts is same at).rows

pub attr_fits : (s : Spec) (names : NameLists) (rel : ℕ) (parts : RelationNames) → AreRelations s.relations
    → names ≡ all_names_of s
    → slice_get names.each rel ≡ Some parts → (name : List ℕ) (i : ℕ) → Some i ≡ place_of parts.attrs name → i < 2 ^ 32
attr_fits s names rel parts is same at name i found =
    let few = few_names s names rel parts is same at in
    omega (arith, few.attrs, place_within parts.attrs name i found)

pub entity_fits : (s : Spec) (names : NameLists) (rel : ℕ) (parts : RelationNames) → AreRelations s.relations
    → names ≡ all_names_of s
    → slice_get names.each rel ≡ Some parts → (name : List ℕ) (i : ℕ) → Some i ≡ place_of parts.entities name → i < 2 ^ 32
entity_fits s names rel parts is same at name i found =
    let few = few_names s names rel parts is same at in
    omega (arith, few.entities, place_within parts.entities name i found)

-- ---- what is found by names

pub is_attr : (s : Spec) (names : NameLists) (relation attr : Named) (rel a : ℕ) (parts : RelationNames) → names ≡ all_names_of s
    → slice_get names.each rel ≡ Some parts → Some rel ≡ place_of names.relations relation.name
    → Some a ≡ place_of parts.attrs attr.name
    → IsAttrOf s.relations relation attr record { rel = record { 0 = rel }; attr = record { 0 = a } }
is_attr s names relation attr rel a parts same at of_relation of_attr =
    let found = named_relation s.relations rel parts (rw same at at) in
    let relation_is = sym (rw same at of_relation) in
    let attr_is = sym (rw found.2 at of_attr) in
    record {
      of = found.0;
      found = found.1;
      is_named = rw (relation_is, found.1, attr_is) refl;
      attr_within = rw length-map at (place_within (map (λ a. a.name) found.0.attrs) attr.name a (sym attr_is));
    }

pub is_entity : (s : Spec) (names : NameLists) (relation entity : Named) (rel ent : ℕ) (parts : RelationNames)
    → names ≡ all_names_of s
    → slice_get names.each rel ≡ Some parts → Some rel ≡ place_of names.relations relation.name → Some ent ≡ place_of
    parts.entities entity.name
    → IsEntityOf s.relations relation entity record { rel = record { 0 = rel }; ent = record { 0 = ent } }
is_entity s names relation entity rel ent parts same at of_relation of_entity =
    let found = named_relation s.relations rel parts (rw same at at) in
    let relation_is = sym (rw same at of_relation) in
    let entity_is = sym (rw found.2 at of_entity) in
    record {
      of = found.0;
      found = found.1;
      is_named = rw (relation_is, found.1, entity_is) refl;
      ent_within = place_within found.0.entities entity.name ent (sym entity_is);
    }

pub is_place : (s : Spec) (names : NameLists) (relation attr entity : Named) (rel a ent : ℕ) (parts : RelationNames)
    → names ≡ all_names_of s
    → slice_get names.each rel ≡ Some parts → Some rel ≡ place_of names.relations relation.name
    → Some a ≡ place_of parts.attrs attr.name
    → Some ent ≡ place_of parts.entities entity.name
    → IsPlaceOf s.relations relation attr entity record {
      rel = record { 0 = rel };
      attr = record { 0 = a };
      ent =
          record { 0 = ent };
    }
is_place s names relation attr entity rel a ent parts same at of_relation of_attr of_entity =
    let found = named_relation s.relations rel parts (rw same at at) in
    let relation_is = sym (rw same at of_relation) in
    let attr_is = sym (rw found.2 at of_attr) in
    let entity_is = sym (rw found.2 at of_entity) in
    record {
      of = found.0;
      found = found.1;
      is_named = rw (relation_is, found.1, attr_is, entity_is) refl;
      attr_within = rw length-map at (place_within (map (λ a. a.name) found.0.attrs) attr.name a (sym attr_is));
      ent_within = place_within found.0.entities entity.name ent (sym entity_is);
    }

-- ---- the names of a relation that is found

-- the names of the relation at a place
parts_are : (s : Spec) (names : NameLists) (rel : ℕ) (r : Relation) (parts : RelationNames) → names ≡ all_names_of s
    → slice_get s.relations rel ≡ Some r → slice_get names.each rel ≡ Some parts → parts ≡ names_of r
parts_are s names rel r parts same found at =
    let there : ◌≡◌ (Some parts) (Some (names_of r)) =
    sym (rw same at at) ∙ slice_get-map names_of s.relations rel ∙ ap (option_map names_of) found in
    cc

pub rel_within_names : (s : Spec) (names : NameLists) (rel : ℕ) (r : Relation) → names ≡ all_names_of s
    → slice_get s.relations rel ≡ Some r
    → rel < length names.each
rel_within_names s names rel r same found = rw (same, length-map) (slice_get_within s.relations rel r found)

-- the rows of names, by the relation's rows and by their names
rows_alike : (r : Relation) (ns : List Named) → rows_named r ns ≡ rows_among (map (λ row. row.name) r.rows) ns
rows_alike r [] = refl
rows_alike r (n ∷ ns) = rw (rows_alike r ns) refl

pub row_in : (s : Spec) (names : NameLists) (rel : ℕ) (r : Relation) (parts : RelationNames) → names ≡ all_names_of s
    → slice_get s.relations rel ≡ Some r → slice_get names.each rel ≡ Some parts → (n : Named) → row_among parts.rows
    n ≡ row_named r n
row_in s names rel r parts same found at n = rw (parts_are s names rel r parts same found at) refl

pub rows_in : (s : Spec) (names : NameLists) (rel : ℕ) (r : Relation) (parts : RelationNames) → names ≡ all_names_of s
    → slice_get s.relations rel ≡ Some r → slice_get names.each rel ≡ Some parts → (ns : List Named)
    → rows_among parts.rows ns ≡ rows_named r ns
rows_in s names rel r parts same found at ns = rw (parts_are s names rel r parts same found at, rows_alike r ns) refl
