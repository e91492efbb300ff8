-- The copy function of a head, from its mappings on.
use Rattle.std.proofs.Common.{◌≡◌, ◌∙◌, ◌<◌, ◌∷◌, [], ℕ, List, length, All, Option, Some, None, Result, Ok, Err, refl, ap, sym, subst, arith}
use Rattle.std.specs.Prelude.{IfOk, slice_get}
use Rattle.std.proofs.lemmas.List.{length-map}
use Rattle.std.proofs.lemmas.List.Elements.{All-cons, All-nil}
use Rattle.std.proofs.lemmas.List.Quantifiers.{position-Some}
use Rattle.currency_base.specs.declared.error_code.ErrorCode.TheVariants as code
use Rattle.currency_base.specs.declared.ids.RelId.{RelId}
use Rattle.currency_base.specs.declared.ids.RowId.{RowId}
use Rattle.currency_base.specs.declared.row.Row.{Row}
use Rattle.text_grammar.specs.declared.named.Named.{Named}
use Rattle.text_grammar.specs.declared.named.NamedPair.{NamedPair}
use Rattle.bind_faults.specs.Faults.{IsDue, all_of, and_then, found_or, refused_of}
use Rattle.bind_faults.specs.declared.fault.BindFault.{BindFault}
use Rattle.copy_functions.specs.Copies.{CopyFunction}
use Rattle.spec_model.specs.Facts.{IsCopyAmong, IsPlaceBetween}
use Rattle.spec_model.specs.declared.relation.Relation.{Relation}
use Rattle.spec_names.specs.Names.{place_of}
use Rattle.copy_bind.specs.HeadFacts.{IsHeadAmong}
use Rattle.copy_bind.specs.declared.head.CopyHead.{CopyHead}
use Rattle.copy_bind.proofs.Due.{due_through}
use Rattle.copy_bind.specs.Copied.{copied, empty_copy, mapping_named, mappings_of, names_of_rows, row_named, with_mappings}
use Rattle.copy_bind.specs.Steps.{IsCopyOfHead, IsWithin}
use Rattle.copy_bind.specs.declared.mapping.Mapping.{Mapping}

-- ---- rows that are found are there

and_then_ok : {A B : Type 0} (first : Result A BindFault) (next : A → Result B BindFault) (y : B) → and_then first next ≡ Ok y
    → (x : A) × (first ≡ Ok x) × (next x ≡ Ok y)
and_then_ok (Ok x) next y is = (x, refl, is)
and_then_ok (Err e) next y is = absurd (cc)

row_found : (place : Option ℕ) (fault : BindFault) (row : RowId)
    → ◌≡◌ {A = Result RowId BindFault} (found_or place fault (λ k. Ok record { 0 = k })) (Ok row) → place ≡ Some row.0
row_found None fault row is = absurd (cc)
row_found (Some k) fault row is = let same : ◌≡◌ {A = RowId} (record { 0 = k }) row = cc in ap (λ (r : RowId). Some r.0) same

row_within : (document : Option (List ℕ)) (r : Relation) (named : Named) (row : RowId) → row_named document
    (names_of_rows r) named ≡ Ok row
    → row.0 < length r.rows
row_within document r named row is =
    let found = row_found (place_of (names_of_rows r) named.name) (refused_of document code.UnknownRow named) row is in
    omega (arith, (position-Some _ (names_of_rows r) row.0 [] found).0, length-map r.rows (λ (q : Row). q.name))

mapping_within : (document : Option (List ℕ)) (target source : Relation) (pair : NamedPair) (m : Mapping)
    → mapping_named document (names_of_rows target) (names_of_rows source) pair ≡ Ok m → IsWithin target source m
mapping_within document target source pair m is =
    let a = and_then_ok (row_named document (names_of_rows target) pair.first) _ m is in
    let b = and_then_ok (row_named document (names_of_rows source) pair.second) _ m a.2 in
    let made : ◌≡◌ {A = Mapping} (record { target = a.0; source = b.0; line = pair.first.line }) m = cc in
    subst (IsWithin target source) made (record {
      in_target = row_within document target pair.first a.0 a.1;
      in_source = row_within document source pair.second b.0 b.1;
    })

mappings_within : (document : Option (List ℕ)) (target source : Relation) (pairs : List NamedPair) (mappings : List Mapping)
    → all_of (mapping_named document (names_of_rows target) (names_of_rows source)) pairs ≡ Ok mappings
    → All (IsWithin target source) mappings
mappings_within document target source [] mappings is =
    let made : [] ≡ mappings = cc in
    subst (All (IsWithin target source)) made (All-nil (IsWithin target source))
mappings_within document target source (pair ∷ pairs) mappings is =
    let f = mapping_named document (names_of_rows target) (names_of_rows source) in
    let a = and_then_ok (f pair) _ mappings is in
    let b = and_then_ok (all_of f pairs) _ mappings a.2 in
    let made : a.0 ∷ b.0 ≡ mappings = cc in
    subst (All (IsWithin target source)) made (All-cons (IsWithin target source) a.0 b.0
    (mapping_within document target source pair a.0 a.1) (mappings_within document target source pairs b.0 b.1))

-- ---- from names of rows that are listed elsewhere

-- the names of the rows of both sides
pub record AreRowNames (head : CopyHead) (targets sources : List (List ℕ)) : Type 0 where
  pub of_target : targets ≡ names_of_rows head.target.relation
  pub of_source : sources ≡ names_of_rows head.source.relation

mappings_are : (head : CopyHead) (document : Option (List ℕ)) (pairs : List NamedPair)
    (targets sources : List (List ℕ)) → AreRowNames head targets sources
    → mappings_of head document pairs ≡ all_of (mapping_named document targets sources) pairs
mappings_are head document pairs targets sources are =
    ap (λ ts. all_of (mapping_named document ts (names_of_rows head.source.relation)) pairs) (sym are.of_target)
    ∙ ap (λ ss. all_of (mapping_named document targets ss) pairs) (sym are.of_source)

pub all_within : (head : CopyHead) (document : Option (List ℕ)) (pairs : List NamedPair)
    (targets sources : List (List ℕ)) (mappings listed : List Mapping)
    → AreRowNames head targets sources → all_of (mapping_named document targets sources) pairs ≡ Ok mappings → listed ≡ mappings
    → All (IsWithin head.target.relation head.source.relation) listed
all_within head document pairs targets sources mappings listed are is same =
    subst (All (IsWithin head.target.relation head.source.relation)) (sym same)
    (mappings_within document head.target.relation head.source.relation pairs mappings
    (mappings_are head document pairs targets sources are ∙ is))

-- a pair that is refused
pub pairs_refused : (name : List ℕ) (head : CopyHead) (document : Option (List ℕ)) (pairs : List NamedPair)
    (targets sources : List (List ℕ)) (e : BindFault)
    → AreRowNames head targets sources → IsDue (all_of (mapping_named document targets sources) pairs) (Err e)
    → IsDue (copied name head document pairs) (Err e)
unfolding copied
pairs_refused name head document pairs targets sources e are due =
    due_through (all_of (mapping_named document targets sources) pairs) (copied name head document pairs) e due
    (λ is. ap (λ ms. and_then ms (with_mappings document head.target.relation.rows head.source.relation.rows
    (empty_copy name head)))
    (mappings_are head document pairs targets sources are ∙ is))

-- what is due once the mappings are there
pub pairs_there : (name : List ℕ) (head : CopyHead) (document : Option (List ℕ)) (pairs : List NamedPair)
    (targets sources : List (List ℕ))
    (mappings listed : List Mapping) (copy : CopyFunction) (result : Result CopyFunction BindFault)
    → AreRowNames head targets sources
    → all_of (mapping_named document targets sources) pairs ≡ Ok mappings → listed ≡ mappings → copy ≡ empty_copy name head
    → IsDue (with_mappings document head.target.relation.rows head.source.relation.rows copy listed) result
    → IsDue (copied name head document pairs) result
unfolding copied
pairs_there name head document pairs targets sources mappings listed copy result are is same begun due =
    let with = with_mappings document head.target.relation.rows head.source.relation.rows in
    let made : copied name head document pairs ≡ with copy listed =
    ap (λ ms. and_then ms (with (empty_copy name head))) (mappings_are head document pairs targets sources are ∙ is)
    ∙ ap (with (empty_copy name head)) (sym same) ∙ ap (λ c. with c listed) (sym begun) in
    subst (λ (d : Result CopyFunction BindFault). IsDue d result) (sym made) due

-- a copy function that maps no row
pub is_empty : (name named : List ℕ) (head : CopyHead) (target source : RelId) (copy : CopyFunction) → named ≡ name
    → target ≡ head.target.id
    → source ≡ head.source.id → copy ≡ record {
      name = named;
      target = target;
      source = source;
      places =
          head.places;
      sources = [];
    }
    → copy ≡ empty_copy name head
is_empty name named head target source copy same_name same_target same_source is =
    is ∙ ap (λ n. record { name = n; target = target; source = source; places = head.places; sources = [] }) same_name
    ∙ ap (λ t. record { name = name; target = t; source = source; places = head.places; sources = [] }) same_target
    ∙ ap (λ s. record { name = name; target = head.target.id; source = s; places = head.places; sources = [] }) same_source

-- ---- among the relations

copy_among : (relations : List Relation) (name : List ℕ) (head : CopyHead) (copy : CopyFunction) → IsHeadAmong relations head
    → IsCopyOfHead name head copy → IsCopyAmong relations copy
copy_among relations name head copy among of = record {
  target = head.target.relation;
  source = head.source.relation;
  is_target = ap (λ (r : RelId). slice_get relations r.0) of.target ∙ among.is_target;
  is_source = ap (λ (r : RelId). slice_get relations r.0) of.source ∙ among.is_source;
  places = subst (All (IsPlaceBetween head.target.relation head.source.relation)) (sym of.places) among.places;
  copied = of.copied;
}

pub result_among : (relations : List Relation) (name : List ℕ) (head : CopyHead)
    (result : Result CopyFunction BindFault) → IsHeadAmong relations head
    → IfOk result (IsCopyOfHead name head) → IfOk result (IsCopyAmong relations)
result_among relations name head (Err fault) among of = tt
result_among relations name head (Ok copy) among of = copy_among relations name head copy among of
