-- Values of some of the variables, and how they go on at a place.
use Rattle.std.specs.Prelude.{◌≡◌, ◌⊎◌, ◌≤◌, ℕ, true, List, All, Contains, Option, Some, None, length, map, slice_get, slice_set}
use Rattle.currency_base.specs.declared.value.Value.{Value}
use Rattle.query_model.specs.Fitting.{StandsIn}
use Rattle.query_model.specs.declared.query.Atom.{Atom}
use Rattle.query_model.specs.declared.query.Term.{Term}
use Rattle.query_model.specs.declared.query.Term.TheVariants.{Var}
use Rattle.spec_model.specs.declared.relation.Relation.{Relation}
use Rattle.match_candidates.specs.Places.{has_there, term_fits}
use Rattle.match_candidates.specs.declared.at.At.{At}
use Rattle.currency_base.specs.declared.ids.EntId.{EntId}

-- values of all variables, of which those that are known are these
pub record Agrees (b : List (Option Value)) (values : List Value) : Type 0 where
  pub as_many : length values ≡ length b
  pub known : (v : ℕ) (x : Value) → slice_get b v ≡ Some (Some x) → slice_get values v ≡ Some x

-- exactly the values that are had at a place
pub record AreChoices (of : Option Relation) (ent : EntId) (place : ℕ) (list : List Value) : Type 0 where
  pub each : All (λ x. has_there of ent place x ≡ true) list
  pub all : (x : Value) → has_there of ent place x ≡ true → Contains list x

-- values with which a search goes on from others: with them the term fits, and has its value, if it is a variable
pub record IsWay (relations : List Relation) (at : At) (b : List (Option Value)) (t : Term) (way : List
    (Option Value)) : Type 0 where
  pub agrees : (values : List Value) → Agrees way values → Agrees b values
  pub fits : (values : List Value) → Agrees way values → term_fits relations at values t ≡ true
  pub unknown : (v : ℕ) → slice_get way v ≡ Some None → slice_get b v ≡ Some None
  pub given : (v : ℕ) → slice_get way v ≡ Some None → t ≡ Var v → ⊥

-- all such ways
pub record AreWays (relations : List Relation) (at : At) (b : List (Option Value)) (t : Term) (ways : List (List
    (Option Value))) : Type 0 where
  pub each : All (IsWay relations at b t) ways
  pub all : (values : List Value) → Agrees b values → term_fits relations at values t ≡ true
      → (way : List (Option Value)) × Contains ways way × Agrees way values

-- one way for each of the values that are had at a place: the term's variable has it
pub record IsEachWay (relations : List Relation) (at : At) (b : List (Option Value)) (v : ℕ) (ways : List (List
    (Option Value))) : Type 0 where
  pub list : List Value
  pub choices : AreChoices (slice_get relations at.rel.0) at.ent at.place list
  pub are : ways ≡ map (λ x. slice_set b v (Some x)) list

-- a variable stands in one of the terms from a place on, or in one of the atoms
abbrev pub StandsLater : ℕ → List Term → List Atom → ℕ → Type 0
StandsLater place terms atoms v = ((k : ℕ) × (place ≤ k) × (slice_get terms k ≡ Some (Var v))) ⊎ StandsIn atoms v

-- each variable that has no value does
pub record AllStand (place : ℕ) (terms : List Term) (atoms : List Atom) (b : List (Option Value)) : Type 0 where
  pub each : (v : ℕ) → slice_get b v ≡ Some None → StandsLater place terms atoms v
