-- Given pairs that names say.
use Rattle.std.proofs.Common.{◌≡◌, ◌∙◌, ◌<◌, ℕ, Bool, true, false, List, length, map, Some, Result, Ok, Err, IfOk, sym, ap, arith, slice_get}
use Rattle.std.specs.Prelude.{if◌then◌else◌}
use Rattle.std.proofs.lemmas.List.{length-map}
use Rattle.currency_base.specs.declared.error_code.ErrorCode.TheVariants.{NotOneEntity, UnknownName}
use Rattle.currency_base.specs.declared.pair.Pair.{Pair}
use Rattle.currency_base.specs.declared.row.Row.{Row}
use Rattle.text_grammar.specs.declared.named.Named.{Named}
use Rattle.text_grammar.specs.declared.named.NamedPair.{NamedPair}
use Rattle.bind_faults.specs.Faults.{and_then, found_or, refused_at}
use Rattle.bind_faults.specs.declared.fault.BindFault.{BindFault}
use Rattle.spec_model.specs.Spec.{Spec}
use Rattle.spec_model.specs.declared.relation.Attr.{Attr}
use Rattle.spec_model.specs.declared.relation.Relation.{Relation}
use Rattle.spec_names.specs.NameLists.{NameLists}
use Rattle.spec_names.specs.Names.{all_names_of, names_of, place_of}
use Rattle.spec_names.specs.declared.names.RelationNames.{RelationNames}
use Rattle.order_bind.specs.Orders.{is_of_one_entity, pair_named}
use Rattle.order_bind.proofs.OrderPairs.{found_fault, found_place, pair_named-within}
use Rattle.spec_edits.specs.Edits.{IsEditOf, IsPairOf}
use Rattle.session_entries.specs.Entries.{checked_pair, given_at, given_edit, given_named, pair_in}

-- ---- a pair of a relation

-- an unknown attribute
pub attr_fault : (names : RelationNames) (r : Relation) (attr : Named) (pair : NamedPair) (e : BindFault)
    → names ≡ names_of r
    → ◌≡◌ {A = Result ℕ BindFault} (Err e) (found_or (place_of names.attrs attr.name) (refused_at UnknownName attr) Ok)
    → pair_in r attr pair ≡ Err e
unfolding pair_in
attr_fault names r attr pair e same is =
    found_fault (place_of (map (λ (a : Attr). a.name) r.attrs) attr.name) (refused_at UnknownName attr) e _
    (sym (rw same at is))

-- what is due once the attribute is found
pub attr_found : (names : RelationNames) (r : Relation) (attr : Named) (pair : NamedPair) (place : ℕ) → names ≡ names_of r
    → ◌≡◌ {A = Result ℕ BindFault} (Ok place) (found_or (place_of names.attrs attr.name) (refused_at UnknownName attr) Ok)
    → pair_in r attr pair ≡ and_then (pair_named names.rows place pair) (checked_pair r.rows pair.first)
unfolding pair_in
attr_found names r attr pair place same is =
    let at : place_of (map (λ (a : Attr). a.name) r.attrs) attr.name ≡ Some place =
    found_place _ (refused_at UnknownName attr) place (sym (rw same at is)) in
    ap (λ p. found_or p (refused_at UnknownName attr)
    (λ k. and_then (pair_named (map (λ (row : Row). row.name) r.rows) k pair) (checked_pair r.rows pair.first))) at
    ∙ ap (λ n. and_then (pair_named n place pair) (checked_pair r.rows pair.first)) (ap (λ (n : RelationNames). n.rows)
    (sym same))

-- an unknown row
pub row_fault : (names : RelationNames) (r : Relation) (attr : Named) (pair : NamedPair) (place : ℕ) (e : BindFault)
    → names ≡ names_of r
    → ◌≡◌ {A = Result ℕ BindFault} (Ok place) (found_or (place_of names.attrs attr.name) (refused_at UnknownName attr) Ok)
    → ◌≡◌ {A = Result Pair BindFault} (Err e) (pair_named names.rows place pair) → pair_in r attr pair ≡ Err e
row_fault names r attr pair place e same is fault =
    attr_found names r attr pair place same is ∙ ap (λ p. and_then p (checked_pair r.rows pair.first)) (sym fault)

-- both rows are found
pub rows_found : (names : RelationNames) (r : Relation) (attr : Named) (pair : NamedPair) (place : ℕ) (rows : List Row)
    (p : Pair)
    → names ≡ names_of r
    → ◌≡◌ {A = Result ℕ BindFault} (Ok place) (found_or (place_of names.attrs attr.name) (refused_at UnknownName attr) Ok)
    → ◌≡◌ {A = Result Pair BindFault} (Ok p) (pair_named names.rows place pair) → rows ≡ r.rows
    → checked_pair rows pair.first p ≡ pair_in r attr pair
rows_found names r attr pair place rows p same is found are =
    ap (λ w. checked_pair w pair.first p) are
    ∙ sym (attr_found names r attr pair place same is ∙ ap (λ q. and_then q (checked_pair r.rows pair.first)) (sym found))

checked_is : (P : Pair → Type 0) (b : Bool) (p : Pair) (e : BindFault) → P p
    → IfOk (if b then (Ok p) else (Err e)) P
checked_is P true p e it = it
checked_is P false p e it = tt

-- the pair is one of the relation
pub pair_there : (names : RelationNames) (r : Relation) (first : Named) (pair : NamedPair) (place : ℕ) (rows : List Row)
    (p : Pair)
    → names ≡ names_of r → place < length names.attrs
    → ◌≡◌ {A = Result Pair BindFault} (Ok p) (pair_named names.rows place pair)
    → IfOk (checked_pair rows first p) (IsPairOf r)
pair_there names r first pair place rows p same within found =
    let it = pair_named-within names.rows place pair p (sym found) in
    let attrs : length names.attrs ≡ length r.attrs =
    ap (λ (n : RelationNames). length n.attrs) same ∙ length-map r.attrs (λ (a : Attr). a.name) in
    let count : length names.rows ≡ length r.rows =
    ap (λ (n : RelationNames). length n.rows) same ∙ length-map r.rows (λ (row : Row). row.name) in
    checked_is (IsPairOf r) (is_of_one_entity rows p) p (refused_at NotOneEntity first) record {
      attr = omega (arith, it.attr_is);
      earlier = omega (arith, it.earlier);
      later = omega (arith, it.later);
    }

-- ---- a pair of a specification

-- an unknown relation
pub relation_fault : (names : NameLists) (list : List (List ℕ)) (s : Spec) (add : Bool) (relation attr : Named)
    (pair : NamedPair)
    (e : BindFault) → names ≡ all_names_of s → list ≡ names.relations
    → ◌≡◌ {A = Result ℕ BindFault} (Err e) (found_or (place_of list relation.name) (refused_at UnknownName relation) Ok)
    → given_named s.relations add relation attr pair ≡ Err e
unfolding given_named
relation_fault names list s add relation attr pair e same listed is =
    let known : list ≡ map (λ (r : Relation). r.name) s.relations = listed ∙ ap (λ (n : NameLists). n.relations) same in
    found_fault (place_of (map (λ (r : Relation). r.name) s.relations) relation.name) (refused_at UnknownName relation) e _
    (sym (rw known at is))

-- what is due once the relation is found
pub relation_found : (names : NameLists) (list : List (List ℕ)) (s : Spec) (add : Bool) (relation attr : Named)
    (pair : NamedPair)
    (rel : ℕ) (r : Relation) → names ≡ all_names_of s → list ≡ names.relations
    → ◌≡◌ {A = Result ℕ BindFault} (Ok rel) (found_or (place_of list relation.name) (refused_at UnknownName relation) Ok)
    → slice_get s.relations rel ≡ Some r
    → given_named s.relations add relation attr pair ≡ and_then (pair_in r attr pair) (λ p. Ok (given_edit add rel p))
unfolding given_named
relation_found names list s add relation attr pair rel r same listed is here =
    let known : list ≡ map (λ (q : Relation). q.name) s.relations = listed ∙ ap (λ (n : NameLists). n.relations) same in
    let at : place_of (map (λ (q : Relation). q.name) s.relations) relation.name ≡ Some rel =
    found_place _ (refused_at UnknownName relation) rel (sym (rw known at is)) in
    ap (λ p. found_or p (refused_at UnknownName relation) (λ k. given_at add relation attr pair k
    (slice_get s.relations k))) at
    ∙ ap (given_at add relation attr pair rel) here

-- what the edit speaks of is there
pub given_there : (s : Spec) (add : Bool) (rel : ℕ) (r : Relation) (p : Pair) → slice_get s.relations rel ≡ Some r
    → IsPairOf r p
    → IsEditOf s (given_edit add rel p)
given_there s true rel r p here it = record { relation = r; is_relation = here; pair = it }
given_there s false rel r p here it = record { relation = r; is_relation = here; pair = it }
