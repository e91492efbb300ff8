-- The head of a copy, or its first fault: first the names that are unknown, in the order of the text, then those that stand
-- twice, then attributes that do not match.
use Rattle.std.specs.Prelude.{ℕ, ◌==◌, ◌&&◌, Bool, true, false, List, [], ◌∷◌, ◌++◌, length, map, Option, Some, None, option_map, Result, Ok, Err, if◌then◌else◌, slice_get}
use Rattle.std.specs.List.{list_all, zip}
use Rattle.currency_base.specs.declared.error_code.ErrorCode.TheVariants.{UnknownName, DuplicateName, Mismatch}
use Rattle.currency_base.specs.declared.ids.AttrId.{AttrId}
use Rattle.currency_base.specs.declared.value.ValueKind.{ValueKind}
use Rattle.currency_base.specs.declared.value.ValueKind.TheVariants.{Text, Int}
use Rattle.text_grammar.specs.declared.named.Named.{Named}
use Rattle.copy_syntax.specs.declared.trees.CopyTree.{CopyTree}
use Rattle.copy_functions.specs.declared.place.Place.{Place}
use Rattle.bind_faults.specs.Faults.{refused_at, found_or, and_then, unless, or_else, all_of}
use Rattle.bind_faults.specs.declared.fault.BindFault.{BindFault}
use Rattle.spec_model.specs.Spec.{Spec}
use Rattle.spec_model.specs.Facts.{kinds_of}
use Rattle.spec_model.specs.declared.relation.Relation.{Relation}
use Rattle.spec_names.specs.Names.{place_of}
use Rattle.copy_bind.specs.Sides.{Side}
use Rattle.copy_bind.specs.declared.head.CopyHead.{CopyHead}

-- ---- names to ids

-- the attribute of a name among these, or the refusal of an unknown one
abbrev pub attr_named : List (List ℕ) → Named → Result AttrId BindFault
attr_named names named = found_or (place_of names named.name) (refused_at UnknownName named) (λ place. Ok record { 0 = place })

-- the names of the attributes of a relation
abbrev pub names_of_attrs : Relation → List (List ℕ)
names_of_attrs r = map (λ a. a.name) r.attrs

-- the side of these attributes of a relation, which stands at this place
abbrev pub side_with : List Named → ℕ → Relation → Result Side BindFault
side_with attrs place r =
    and_then (all_of (attr_named (names_of_attrs r)) attrs)
    (λ ids. Ok record { id = record { 0 = place }; relation = r; attrs = ids })

-- the same, where a relation is there
abbrev pub side_at : Named → List Named → ℕ → Option Relation → Result Side BindFault
side_at relation attrs place None = Err (refused_at UnknownName relation)
side_at relation attrs place (Some r) = side_with attrs place r

-- the side of these attributes of the relation of that name: an unknown relation is refused first
unfoldable pub side_of : List Relation → Named → List Named → Result Side BindFault
side_of relations relation attrs =
    found_or (place_of (map (λ r. r.name) relations) relation.name) (refused_at UnknownName relation)
    (λ place. side_at relation attrs place (slice_get relations place))

-- ---- names that stand twice

-- the refusal of a name that is one of these
abbrev pub taken : List (List ℕ) → Named → Option BindFault
taken names named = option_map (λ place. refused_at DuplicateName named) (place_of names named.name)

-- the refusal of the first name that stands before itself, or among the names before the list
abbrev pub repeated : List (List ℕ) → List Named → Option BindFault
repeated before [] = None
repeated before (named ∷ more) = or_else (taken before named) (repeated (before ++ named.name ∷ []) more)

-- the refusal of the copy's name where it is one of these, or else of a target attribute, or else of a source attribute,
-- that is listed twice
unfoldable pub names_refused : List (List ℕ) → CopyTree → Option BindFault
names_refused copies tree = or_else (taken copies tree.name) (or_else (repeated [] tree.target_attrs)
    (repeated [] tree.source_attrs))

-- ---- attributes that match

-- the attributes of two lists that stand side by side
abbrev pub places_of : List AttrId → List AttrId → List Place
places_of targets sources = map (λ p. record { target = p.0; source = p.1 }) (zip targets sources)

-- the kind of an attribute, where it is there
abbrev pub kind_at : Relation → AttrId → Option ValueKind
kind_at r attr = slice_get (kinds_of r) attr.0

-- two kinds that are one
abbrev pub same_kind : Option ValueKind → Option ValueKind → Bool
same_kind (Some Text) (Some Text) = true
same_kind (Some Int) (Some Int) = true
same_kind a b = false

-- the attributes of a place are of one kind
abbrev pub is_of_one_kind : Relation → Relation → Place → Bool
is_of_one_kind target source place = same_kind (kind_at target place.target) (kind_at source place.source)

-- those of each place are
abbrev pub are_of_one_kind : Relation → Relation → List Place → Bool
are_of_one_kind target source places = list_all (is_of_one_kind target source) places

-- as many attributes on both sides, and those that stand side by side of one kind
abbrev pub is_matching : Side → Side → Bool
is_matching target source =
    (length target.attrs == length source.attrs) && are_of_one_kind target.relation source.relation
    (places_of target.attrs source.attrs)

-- the places of two sides, or the refusal of a copy whose attributes do not match, at its name
unfoldable pub matched : Named → Side → Side → Result (List Place) BindFault
matched name target source =
    if is_matching target source then Ok (places_of target.attrs source.attrs) else Err (refused_at Mismatch name)

-- ---- the head

-- the head that a tree says of a specification
unfoldable pub head_of : Spec → CopyTree → Result CopyHead BindFault
head_of s tree =
    and_then (side_of s.relations tree.target tree.target_attrs) (λ target.
    and_then (side_of s.relations tree.source tree.source_attrs) (λ source.
    unless (names_refused (map (λ c. c.name) s.copies) tree)
    (and_then (matched tree.name target source) (λ places. Ok record { target = target; source = source; places = places }))))
