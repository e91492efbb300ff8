-- What every specification keeps stays with one more given pair.
use Rattle.std.proofs.Common.{◌≡◌, ◌<◌, ℕ, List, All, slice_get, slice_set, get_or, Some, IfSome, length, length-set, refl, subst, sym, ap}
use Rattle.std.proofs.Math.Seq.{map-set_same}
use Rattle.currency_base.specs.Lists.{OnlyOnce}
use Rattle.std.specs.BTreeSet.{insert_key}
use Rattle.std.proofs.lemmas.List.Elements.{All-weaker, All-set, All-get_or}
use Rattle.std.proofs.lemmas.Map.Views.{All-insert_key}
use Rattle.std.proofs.lemmas.Option.{get_or_from_slice_get, slice_get_within, slice_get_read}
use Rattle.partial_orders.specs.Pairs.{pair_cmp}
use Rattle.currency_base.specs.declared.pair.Pair.{Pair}
use Rattle.spec_model.specs.declared.relation.Relation.{Relation}
use Rattle.spec_model.specs.Facts.{IsGivenPair, IsRelation, AreRelations, AddsGiven}

-- a given pair of a relation is one whatever else is given
is_pair_beside : (r : Relation) (given : List Pair) (p : Pair) → IsGivenPair r p → IsGivenPair (record r { given = given }) p
is_pair_beside r given p h =
    record { attr = h.attr; earlier = h.earlier; later = h.later; one_entity = h.one_entity }

is_relation_with : (r : Relation) (given : List Pair) → IsRelation r → All (IsGivenPair r) given → IsRelation
    (record r { given = given })
is_relation_with r given h all =
    record {
      few_attrs = h.few_attrs;
      few_rows = h.few_rows;
      few_entities = h.few_entities;
      entities = h.entities;
      inhabited = h.inhabited;
      values = h.values;
      attr_names = h.attr_names;
      row_names = h.row_names;
      entity_names = h.entity_names;
      given = All-weaker (IsGivenPair r) (IsGivenPair (record r { given = given })) (is_pair_beside r given) given all;
    }

-- other given pairs at one relation of a specification
pub are_relations_with : (rs : List Relation) (i : ℕ) (r : Relation) (given : List Pair)
    → AreRelations rs → slice_get rs i ≡ Some r → IsRelation r → All (IsGivenPair r) given
    → AreRelations (slice_set rs i (record r { given = given }))
are_relations_with rs i r given h at is all =
    let same_name : r.name ≡ (get_or rs i r).name = ap (λ q. q.name) (sym (get_or_from_slice_get rs i r r at)) in
    let same_names = map-set_same (λ q. q.name) rs i (record r { given = given }) r same_name in
    record {
      few = rw length-set h.few;
      each = All-set IsRelation rs i (record r { given = given }) (is_relation_with r given is all) h.each;
      names = subst OnlyOnce (sym same_names) h.names;
    }

-- a relation of a specification
pub is_relation_of : (rs : List Relation) (i : ℕ) (r : Relation) → AreRelations rs → slice_get rs i ≡ Some r → IsRelation r
is_relation_of rs i r h at =
    subst IsRelation (get_or_from_slice_get rs i r r at) (All-get_or IsRelation rs i r (slice_get_within rs i r at) h.each)

-- the relation that was read at a place
pub found_at : (rs now : List Relation) (i : ℕ) (r : Relation) → rs ≡ now → i < length now → r ≡ get_or rs i r
    → slice_get now i ≡ Some r
found_at rs now i r same below read =
    slice_get_read now (length now) i r refl below (rw same at read)

pub read_at : (rs now : List Relation) (i : ℕ) (r : Relation) → rs ≡ now → i < length now → r ≡ get_or rs i r
    → slice_get rs i ≡ Some r
read_at rs now i r same below read = let at = found_at rs now i r same below read in rw same at

pair_of : (now : List Relation) (i : ℕ) (r : Relation) (p : Pair) → slice_get now i ≡ Some r
    → IfSome (slice_get now i) (λ q. IsGivenPair q p) → IsGivenPair r p
pair_of now i r p at is = rw at at is

-- one more pair at one relation
pub are_relations_adding : (rs now : List Relation) (i : ℕ) (r : Relation) (p : Pair) (given : List Pair)
    → rs ≡ now → AreRelations rs → i < length now → r ≡ get_or rs i r → IfSome (slice_get now i) (λ q. IsGivenPair q p)
    → given ≡ insert_key pair_cmp r.given p → AreRelations (slice_set rs i (record r { given = given }))
are_relations_adding rs now i r p given same h below read is more =
    let at = found_at rs now i r same below read in
    let here : slice_get rs i ≡ Some r = rw same at in
    let relation = is_relation_of rs i r h here in
    let all = All-insert_key pair_cmp p (IsGivenPair r) r.given relation.given (pair_of now i r p at is) in
    are_relations_with rs i r given h here relation (rw more all)

-- the pairs as they were
pub are_relations_keeping : (rs now : List Relation) (i : ℕ) (r : Relation) (given : List Pair)
    → rs ≡ now → AreRelations rs → i < length now → r ≡ get_or rs i r
    → given ≡ r.given → AreRelations (slice_set rs i (record r { given = given }))
are_relations_keeping rs now i r given same h below read kept =
    let at = found_at rs now i r same below read in
    let here : slice_get rs i ≡ Some r = rw same at in
    let relation = is_relation_of rs i r h here in
    are_relations_with rs i r given h here relation (rw kept relation.given)

pub adds_given : (rs now : List Relation) (i : ℕ) (r : Relation) (p : Pair) (given : List Pair)
    → rs ≡ now → i < length now → r ≡ get_or rs i r
    → given ≡ insert_key pair_cmp r.given p → AddsGiven now (slice_set rs i (record r { given = given })) i p
adds_given rs now i r p given same below read more other at =
    let here = found_at rs now i r same below read in
    let one : other ≡ r = cc in
    rw (same, more, one) refl
