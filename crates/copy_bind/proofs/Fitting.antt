-- A head that is not refused stands among the relations, and its copy has a name of its own.
use Rattle.std.proofs.Common.{◌≡◌, ◌∙◌, ℕ, Bool, true, false, List, [], ◌∷◌, map, All, Contains, Option, Some, None, Result, Ok, Err, refl, ap, sym, subst}
use Rattle.std.specs.Prelude.{if◌then◌else◌, slice_get}
use Rattle.std.proofs.lemmas.Bool.{and_parts}
use Rattle.std.proofs.lemmas.List.Elements.{All-cons, All-nil}
use Rattle.currency_base.specs.declared.error_code.ErrorCode.TheVariants.{UnknownName}
use Rattle.currency_base.specs.declared.value.ValueKind.{ValueKind}
use Rattle.currency_base.specs.declared.value.ValueKind.TheVariants.{Text, Int}
use Rattle.text_grammar.specs.declared.named.Named.{Named}
use Rattle.copy_syntax.specs.declared.trees.CopyTree.{CopyTree}
use Rattle.copy_functions.specs.declared.place.Place.{Place}
use Rattle.bind_faults.specs.Faults.{refused_at, found_or, and_then, or_else, all_of}
use Rattle.bind_faults.specs.declared.fault.BindFault.{BindFault}
use Rattle.spec_model.specs.Spec.{Spec}
use Rattle.spec_model.specs.Facts.{IsPlaceBetween}
use Rattle.spec_model.specs.declared.relation.Relation.{Relation}
use Rattle.spec_names.specs.Names.{place_of}
use Rattle.copy_bind.specs.HeadFacts.{IsHeadAmong}
use Rattle.copy_bind.specs.Heads.{are_of_one_kind, attr_named, is_matching, is_of_one_kind, kind_at, matched, names_of_attrs, names_refused, places_of, repeated, same_kind, side_at, side_of, side_with, taken}
use Rattle.copy_bind.specs.Sides.{Side}
use Rattle.copy_bind.proofs.Due.{AreSides, copies_of}
use Rattle.copy_bind.proofs.Places.{untaken}

-- what comes of two steps is what comes of the second, from what came of the first
and_then_ok : {A B : Type 0} (first : Result A BindFault) (next : A → Result B BindFault) (y : B) → and_then first next ≡ Ok y
    → (x : A) × (first ≡ Ok x) × (next x ≡ Ok y)
and_then_ok (Ok x) next y is = (x, refl, is)
and_then_ok (Err e) next y is = absurd (cc)

-- the relation of a side stands at its id
with_is : (attrs : List Named) (place : ℕ) (r : Relation) (side : Side) → side_with attrs place r ≡ Ok side
    → (side.id.0 ≡ place) × (side.relation ≡ r)
with_is attrs place r side is =
    let a = and_then_ok (all_of (attr_named (names_of_attrs r)) attrs)
    (λ ids. Ok record { id = record { 0 = place }; relation = r; attrs = ids }) side is in
    let made : ◌≡◌ {A = Side} (record { id = record { 0 = place }; relation = r; attrs = a.0 }) side = cc in
    (ap (λ (x : Side). x.id.0) (sym made), ap (λ (x : Side). x.relation) (sym made))

at_is : (relations : List Relation) (name : Named) (attrs : List Named) (place : ℕ) (there : Option Relation) (side : Side)
    → slice_get relations place ≡ there → side_at name attrs place there ≡ Ok side → slice_get relations side.id.0 ≡
    Some side.relation
at_is relations name attrs place None side at is = absurd (cc)
at_is relations name attrs place (Some r) side at is =
    let w = with_is attrs place r side is in
    ap (slice_get relations) w.0 ∙ at ∙ ap Some (sym w.1)

found_is : (relations : List Relation) (name : Named) (attrs : List Named) (found : Option ℕ) (side : Side)
    → found_or found (refused_at UnknownName name) (λ place. side_at name attrs place (slice_get relations place)) ≡ Ok side
    → slice_get relations side.id.0 ≡ Some side.relation
found_is relations name attrs None side is = absurd (cc)
found_is relations name attrs (Some place) side is = at_is relations name attrs place (slice_get relations place) side refl is

side_is : (relations : List Relation) (name : Named) (attrs : List Named) (side : Side) → side_of relations name attrs ≡ Ok side
    → slice_get relations side.id.0 ≡ Some side.relation
unfolding side_of
side_is relations name attrs side is = found_is relations name attrs
    (place_of (map (λ (r : Relation). r.name) relations) name.name) side is

-- a kind that two attributes have
one_kind : (a b : Option ValueKind) → same_kind a b ≡ true → (kind : ValueKind) × (a ≡ Some kind) × (b ≡ Some kind)
one_kind None b is = absurd (cc)
one_kind (Some Text) None is = absurd (cc)
one_kind (Some Text) (Some Text) is = (Text, refl, refl)
one_kind (Some Text) (Some Int) is = absurd (cc)
one_kind (Some Int) None is = absurd (cc)
one_kind (Some Int) (Some Text) is = absurd (cc)
one_kind (Some Int) (Some Int) is = (Int, refl, refl)

place_between : (target source : Relation) (place : Place) → is_of_one_kind target source place ≡ true
    → IsPlaceBetween target source place
place_between target source place is =
    let k = one_kind (kind_at target place.target) (kind_at source place.source) is in
    record { kind = k.0; in_target = k.1; in_source = k.2 }

places_between : (target source : Relation) (places : List Place) → are_of_one_kind target source places ≡ true
    → All (IsPlaceBetween target source) places
places_between target source [] is = All-nil (IsPlaceBetween target source)
places_between target source (place ∷ places) is =
    let both = and_parts (is_of_one_kind target source place) (are_of_one_kind target source places) is in
    All-cons (IsPlaceBetween target source) place places (place_between target source place both.0)
    (places_between target source places both.1)

if_ok : {A : Type 0} (b : Bool) (x y : A) (e : BindFault) → ◌≡◌ {A = Result A BindFault} (if b then Ok x else Err e)
    (Ok y) → (b ≡ true) × (y ≡ x)
if_ok true x y e is = (refl, cc)
if_ok false x y e is = absurd (cc)

-- the places of sides that match
matched_between : (name : Named) (target source : Side) (places : List Place) → matched name target source ≡ Ok places
    → All (IsPlaceBetween target.relation source.relation) places
unfolding matched
matched_between name target source places is =
    let m = if_ok (is_matching target source) (places_of target.attrs source.attrs) places _ is in
    subst (All (IsPlaceBetween target.relation source.relation)) (sym m.1)
    (places_between target.relation source.relation (places_of target.attrs source.attrs) (and_parts _ _ m.0).1)

pub head_among : (s : Spec) (tree : CopyTree) (target source : Side) (places : List Place) → AreSides s tree target source
    → matched tree.name target source ≡ Ok places → IsHeadAmong s.relations
    (record { target = target; source = source; places = places })
head_among s tree target source places sides is = record {
  is_target = side_is s.relations tree.target tree.target_attrs target sides.is_target;
  is_source = side_is s.relations tree.source tree.source_attrs source sides.is_source;
  places = matched_between tree.name target source places is;
}

-- neither of two refusals
neither : (a b : Option BindFault) → or_else a b ≡ None → (a ≡ None) × (b ≡ None)
neither None b is = (refl, is)
neither (Some fault) b is = absurd (cc)

-- a copy that is not refused has a name of its own
pub is_fresh : (s : Spec) (tree : CopyTree) → names_refused (copies_of s) tree ≡ None → Contains (copies_of s) tree.name.name → ⊥
unfolding names_refused
is_fresh s tree free =
    untaken (copies_of s) tree.name (neither (taken (copies_of s) tree.name) (or_else (repeated [] tree.target_attrs)
    (repeated [] tree.source_attrs)) free).0
