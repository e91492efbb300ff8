-- Words of private contracts.
use Rattle.std.specs.Prelude.{◌≡◌, ◌++◌, ℕ, Bool, List, [], ◌∷◌, Option, None, is_some, Result, Ok, if◌then◌else◌}
use Rattle.std.specs.Map.{lookup}
use Rattle.std.specs.Str.{bytes_eq}
use Rattle.currency_base.specs.declared.value.ValueKind.{ValueKind}
use Rattle.bind_faults.specs.Faults.{and_then, or_else}
use Rattle.bind_faults.specs.declared.fault.BindFault.{BindFault}
use Rattle.query_syntax.specs.declared.trees.DisjunctTree.{DisjunctTree}
use Rattle.spec_model.specs.declared.relation.Relation.{Relation}
use Rattle.spec_names.specs.Names.{place_of}
use Rattle.query_bind.specs.Queried.{kind_in, mismatch_by, or_first}

-- items in front of what others give
abbrev pub with_front : {A : Type 0} → List A → Result (List A) BindFault → Result (List A) BindFault
with_front front r = and_then r (λ items. Ok (front ++ items))

-- the kind that is noted of a name
abbrev pub kind_for : List (List ℕ × ValueKind) → List ℕ → Option ValueKind
kind_for noted name = lookup (bytes_eq name) noted

-- of each name that has no kind yet, the one that this gives is noted
abbrev pub Notes : List (List ℕ × ValueKind) → List (List ℕ × ValueKind) → (List ℕ → Option ValueKind) → Type 0
Notes old new more = (name : List ℕ) → kind_for new name ≡ or_first (kind_for old name) (more name)

-- the kind that is noted of one of these names
abbrev pub kind_among : List (List ℕ) → List (List ℕ × ValueKind) → List ℕ → Option ValueKind
kind_among head noted name = if is_some (place_of head name) then kind_for noted name else None

-- the refusal of the first part of disjuncts that is of two kinds, from what names stand in the head and what kinds names have
-- by earlier disjuncts
abbrev pub mismatch_from : List (List ℕ) → List Relation → (List ℕ → Bool) → (List ℕ → Option ValueKind)
    → List DisjunctTree → Option BindFault
mismatch_from names relations in_head before [] = None
mismatch_from names relations in_head before (d ∷ ds) =
    or_else (mismatch_by names relations (kind_in names relations d) (λ name. if in_head name then before name else None) d)
    (mismatch_from names relations in_head (λ name. or_first (before name) (kind_in names relations d name)) ds)
