-- What values an entity has at the places of an atom, and which entities fit atoms.
use Rattle.std.specs.Prelude.{◌≡◌, ◌==◌, ◌-◌, ◌<◌, ◌≤◌, ℕ, Bool, true, false, if◌then◌else◌, List, [], ◌∷◌, Option, Some, None, length, slice_get}
use Rattle.std.specs.List.{find}
use Rattle.std.specs.Option.{is_some}
use Rattle.currency_base.specs.declared.ids.EntId.{EntId}
use Rattle.currency_base.specs.declared.value.Cmp.TheVariants.{Eq}
use Rattle.currency_base.specs.declared.value.Value.{Value}
use Rattle.currency_base.specs.declared.value.Value.TheVariants.{Text}
use Rattle.entity_rows.specs.Members.{members}
use Rattle.match_premises.specs.Premises.{has_value}
use Rattle.query_model.specs.Answers.{is_compared}
use Rattle.query_model.specs.declared.query.Atom.{Atom}
use Rattle.query_model.specs.declared.query.Term.{Term}
use Rattle.query_model.specs.declared.query.Term.TheVariants as term
use Rattle.spec_model.specs.declared.relation.Relation.{Relation}
use Rattle.match_candidates.specs.declared.at.At.{At}

-- a value is the name, if there is one
abbrev pub is_name : Option (List ℕ) → Value → Bool
is_name None v = false
is_name (Some name) v = is_compared (Some v) Eq (Some (Text name))

-- a value is had at a place: at the first it is the entity's name, and at each other one some row of the entity has it
abbrev pub has_in : Relation → EntId → ℕ → Value → Bool
has_in r ent place v =
    if place == 0 then is_name (slice_get r.entities ent.0) v
    else is_some (find (has_value r.rows (record { 0 = place - 1 }) v) (members r.rows ent.0))

-- of a relation that may not be there
abbrev pub has_there : Option Relation → EntId → ℕ → Value → Bool
has_there None ent place v = false
has_there (Some r) ent place v = has_in r ent place v

abbrev pub has_at : List Relation → At → Value → Bool
has_at relations at v = has_there (slice_get relations at.rel.0) at.ent at.place v

-- a value that may not be known
abbrev pub has_known : List Relation → At → Option Value → Bool
has_known relations at None = false
has_known relations at (Some v) = has_at relations at v

-- the value that a term asks for is had
abbrev pub term_fits : List Relation → At → List Value → Term → Bool
term_fits relations at values (term.Var v) = has_known relations at (slice_get values v)
term_fits relations at values term.Any = true
term_fits relations at values (term.Constant c) = has_at relations at c

-- the terms from a place on fit
abbrev pub TermsFit : List Relation → At → List Value → List Term → Type 0
TermsFit relations at values terms =
    (k : ℕ) (t : Term) → at.place ≤ k → slice_get terms k ≡ Some t → term_fits relations (record at { place = k }) values t ≡ true

-- all terms of an atom fit an entity of its relation
pub record AtomFits (relations : List Relation) (values : List Value) (atom : Atom) (ent : EntId) : Type 0 where
  pub relation : Relation
  pub is_relation : slice_get relations atom.relation.0 ≡ Some relation
  pub within : ent.0 < length relation.entities
  pub terms : TermsFit relations (record { rel = atom.relation; ent = ent; place = 0 }) values atom.terms

-- atoms, each of an entity
abbrev pub AtomsFit : List Relation → List Value → List Atom → List EntId → Type 0
AtomsFit relations values [] [] = Unit {0}
AtomsFit relations values [] (ent ∷ ents) = ⊥
AtomsFit relations values (atom ∷ atoms) [] = ⊥
AtomsFit relations values (atom ∷ atoms) (ent ∷ ents) = AtomFits relations values atom ent × AtomsFit relations values atoms ents
