-- Matches of a query: the place of the tuple that one makes an answer, and what it claims of current values.
use Rattle.std.specs.Prelude.{ℕ, suc, Bool, if◌then◌else◌, List, [], ◌∷◌, ◌++◌, Option, Some, None, option_map, option_and_then, slice_get}
use Rattle.std.specs.Cmp.Lexicographic.{slice_cmp}
use Rattle.std.specs.Ordering.{is_eq}
use Rattle.currency_base.specs.Values.{value_cmp}
use Rattle.currency_base.specs.declared.ids.EntId.{EntId}
use Rattle.currency_base.specs.declared.value.Value.{Value}
use Rattle.match_premises.specs.Premises.{entity_premises, tuple_from}
use Rattle.match_premises.specs.declared.premise.Premise.{Premise}
use Rattle.query_model.specs.declared.query.Atom.{Atom}
use Rattle.spec_model.specs.declared.relation.Relation.{Relation}

-- ---- tuples

-- the tuples are one
abbrev pub is_tuple : List Value → List Value → Bool
is_tuple a b = is_eq (slice_cmp value_cmp a b)

-- the first place at which a tuple stands, if it stands at one
abbrev pub first_place : List (List Value) → List Value → Option ℕ
first_place [] tuple = None
first_place (first ∷ more) tuple = if is_tuple first tuple then Some 0 else option_map suc (first_place more tuple)

-- the place of the tuple that a head's variables have as their values
abbrev pub answer_place : List (List Value) → List Value → List ℕ → Option ℕ
answer_place answers values head = option_and_then (first_place answers) (tuple_from values (Some []) head)

-- ---- claims

-- what an atom claims of an entity of its relation, if that is there
abbrev pub atom_claims : List Relation → List Value → Atom → EntId → Option (List Premise)
atom_claims relations values atom ent =
    option_and_then (λ r. entity_premises atom.relation values atom.terms r ent) (slice_get relations atom.relation.0)

-- the claims of both, if both have some
abbrev pub both_claims : Option (List Premise) → Option (List Premise) → Option (List Premise)
both_claims (Some first) (Some more) = Some (first ++ more)
both_claims first more = None

-- what atoms claim, each of an entity: atom by atom and place by place
abbrev pub match_claims : List Relation → List Value → List Atom → List EntId → Option (List Premise)
match_claims relations values [] [] = Some []
match_claims relations values (atom ∷ atoms) (ent ∷ entities) =
    both_claims (atom_claims relations values atom ent) (match_claims relations values atoms entities)
match_claims relations values atoms entities = None
