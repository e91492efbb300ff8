-- The relation of a name, at its place, with the names of its parts.
use Rattle.std.proofs.Common.{◌≡◌, ◌∙◌, ◌<◌, ℕ, List, length, map, get_or, Some, None, Option, Result, Ok, Err, refl, ap, sym, subst, arith, slice_get}
use Rattle.std.specs.Prelude.{option_map}
use Rattle.std.proofs.lemmas.List.{length-map}
use Rattle.std.proofs.lemmas.List.Elements.{All-get_or}
use Rattle.std.proofs.lemmas.Option.{slice_get_read, slice_get-map, same_Some}
use Rattle.currency_base.specs.declared.error_code.ErrorCode.TheVariants.{UnknownName}
use Rattle.text_grammar.specs.declared.named.Named.{Named}
use Rattle.bind_faults.specs.Faults.{found_or, refused_at}
use Rattle.bind_faults.specs.declared.fault.BindFault.{BindFault}
use Rattle.spec_model.specs.Spec.{Spec}
use Rattle.spec_model.specs.Facts.{AreRelations, IsRelation}
use Rattle.spec_model.specs.declared.relation.Attr.{Attr}
use Rattle.spec_model.specs.declared.relation.Relation.{Relation}
use Rattle.spec_names.specs.NameLists.{NameLists}
use Rattle.spec_names.specs.Names.{all_names_of, names_of, place_of}
use Rattle.spec_names.specs.declared.names.RelationNames.{RelationNames}
use Rattle.copy_bind.specs.Heads.{side_of, side_with}

-- the names of a specification, its relations as they are listed, and one of these at its place
pub record IsPlace (names : NameLists) (s : Spec) (list : List (List ℕ)) (place : ℕ) (relations : List Relation)
    (r : Relation) : Type 0 where
  pub all : names ≡ all_names_of s
  pub listed : list ≡ names.relations
  pub within : place < length list
  pub are : relations ≡ s.relations
  pub is : r ≡ get_or relations place r

pub listed_names : (names : NameLists) (s : Spec) (list : List (List ℕ)) → names ≡ all_names_of s → list ≡ names.relations
    → list ≡ map (λ r. r.name) s.relations
listed_names names s list all listed = listed ∙ ap (λ (n : NameLists). n.relations) all

-- the place is one of the relations
pub place_within : (names : NameLists) (s : Spec) (list : List (List ℕ)) (place : ℕ) → names ≡ all_names_of s
    → list ≡ names.relations
    → place < length list → place < length s.relations
place_within names s list place all listed within =
    omega (arith, ap length (listed_names names s list all listed), length-map s.relations (λ (r : Relation). r.name), within)

-- a place is a number of 32 bits
pub place_fits : (names : NameLists) (s : Spec) (list : List (List ℕ)) (place : ℕ) → names ≡ all_names_of s
    → list ≡ names.relations
    → place < length list → AreRelations s.relations → place < 4294967296
place_fits names s list place all listed within facts = let few = facts.few in omega
    (arith, place_within names s list place all listed within)

pub relation_at : (names : NameLists) (s : Spec) (list : List (List ℕ)) (place : ℕ) (relations : List Relation) (r : Relation)
    → IsPlace names s list place relations r → slice_get s.relations place ≡ Some r
relation_at names s list place relations r p =
    slice_get_read s.relations (length s.relations) place r refl
    (place_within names s list place p.all p.listed p.within) (p.is ∙ ap (λ rs. get_or rs place r) p.are)

-- the names of its parts
pub parts_at : (names : NameLists) (s : Spec) (list : List (List ℕ)) (place : ℕ) (relations : List Relation)
    (r : Relation) (parts : RelationNames)
    → IsPlace names s list place relations r → slice_get names.each place ≡ Some parts → parts ≡ names_of r
parts_at names s list place relations r parts p at =
    same_Some parts (names_of r) (sym at ∙ ap (λ (n : NameLists). slice_get n.each place) p.all
    ∙ slice_get-map names_of s.relations place ∙ ap (option_map names_of) (relation_at names s list place relations r p))

-- what it keeps
pub facts_at : (names : NameLists) (s : Spec) (list : List (List ℕ)) (place : ℕ) (relations : List Relation) (r : Relation)
    → IsPlace names s list place relations r → AreRelations s.relations → IsRelation r
facts_at names s list place relations r p facts =
    subst IsRelation (sym (p.is ∙ ap (λ rs. get_or rs place r) p.are))
    (All-get_or IsRelation s.relations place r (place_within names s list place p.all p.listed p.within) facts.each)

-- its attributes are few
pub few_attrs : (r : Relation) (parts : RelationNames) → parts ≡ names_of r → IsRelation r → length parts.attrs < 4294967296
few_attrs r parts is facts =
    let few = facts.few_attrs in
    omega (arith, few, ap (λ (n : RelationNames). length n.attrs) is, length-map r.attrs (λ (a : Attr). a.name))

found_err : (p : Option ℕ) (fault e : BindFault) → found_or p fault Ok ≡ Err e → (p ≡ None) × (fault ≡ e)
found_err None fault e is = (refl, cc)
found_err (Some q) fault e is = absurd (cc)

found_ok : (p : Option ℕ) (fault : BindFault) (place : ℕ) → found_or p fault Ok ≡ Ok place → p ≡ Some place
found_ok None fault place is = absurd (cc)
found_ok (Some q) fault place is = cc

-- an unknown relation is due
pub unknown_relation : (names : NameLists) (s : Spec) (list : List (List ℕ)) (name : Named) (attrs : List Named)
    (e : BindFault) → names ≡ all_names_of s
    → list ≡ names.relations → ◌≡◌ {A = Result ℕ BindFault} (Err e)
    (found_or (place_of list name.name) (refused_at UnknownName name) Ok)
    → side_of s.relations name attrs ≡ Err e
unfolding side_of
unknown_relation names s list name attrs e all listed is =
    let missing = found_err (place_of list name.name) (refused_at UnknownName name) e (sym is) in
    let at : place_of (map (λ (r : Relation). r.name) s.relations) name.name ≡ None =
    ap (λ ns. place_of ns name.name) (sym (listed_names names s list all listed)) ∙ missing.0 in
    rw at (ap Err missing.1)

-- what is due of the relation that is found is due of the side
pub due_at : (names : NameLists) (s : Spec) (list : List (List ℕ)) (place : ℕ) (relations : List Relation)
    (r : Relation) (name : Named) (attrs : List Named)
    → IsPlace names s list place relations r
    → ◌≡◌ {A = Result ℕ BindFault} (Ok place) (found_or (place_of list name.name) (refused_at UnknownName name) Ok)
    → side_of s.relations name attrs ≡ side_with attrs place r
unfolding side_of
due_at names s list place relations r name attrs p is =
    let found = found_ok (place_of list name.name) (refused_at UnknownName name) place (sym is) in
    let at : place_of (map (λ (q : Relation). q.name) s.relations) name.name ≡ Some place =
    ap (λ ns. place_of ns name.name) (sym (listed_names names s list p.all p.listed)) ∙ found in
    rw (at, relation_at names s list place relations r p) refl
