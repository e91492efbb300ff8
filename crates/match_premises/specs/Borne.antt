-- What a match says once its claims hold in a completion.
use Rattle.std.specs.Prelude.{◌≡◌, ℕ, List, [], All, Some, slice_get}
use Rattle.currency_base.specs.declared.ids.EntId.{EntId}
use Rattle.currency_base.specs.declared.value.Value.{Value}
use Rattle.denial_rules.specs.Instances.{field_value}
use Rattle.query_model.specs.Answers.{AtomMatches, IsHead}
use Rattle.query_model.specs.declared.query.Atom.{Atom}
use Rattle.spec_model.specs.Completion.{Rankings}
use Rattle.spec_model.specs.Current.{current_value, IsCurrentInstance}
use Rattle.spec_model.specs.declared.relation.Relation.{Relation}
use Rattle.match_premises.specs.Premises.{entity_premises, tuple_from}
use Rattle.match_premises.specs.declared.premise.Premise.{Premise}

-- the value of the row is the current one of an entity in a completion
abbrev pub HoldsOf : Rankings → Relation → EntId → Premise → Type 0
HoldsOf c r ent p = current_value c p.rel.0 r.rows p.attr.0 ent.0 ≡ field_value r.rows (Some p.row) p.attr.0

-- where all that an atom claims of an entity holds in a completion, the entity's current tuple is one that the atom's terms fit
abbrev pub PremisesMakeMatches : Type 0
PremisesMakeMatches =
    (relations : List Relation) (c : Rankings) (instance : List (List (List Value))) → IsCurrentInstance relations c instance
    → (atom : Atom) (r : Relation) (ent : EntId) (values : List Value) (premises : List Premise)
    → slice_get relations atom.relation.0 ≡ Some r → entity_premises atom.relation values atom.terms r ent ≡ Some premises
    → All (HoldsOf c r ent) premises → AtomMatches instance values atom ent.0

-- the tuple of a head is the values of its variables
abbrev pub HeadsAreOfValues : Type 0
HeadsAreOfValues = (values tuple : List Value) (head : List ℕ) → tuple_from values (Some []) head ≡ Some tuple
    → IsHead values head tuple
