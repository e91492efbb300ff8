-- What a search goes through.
use Rattle.std.specs.Prelude.{◌≡◌, ◌++◌, ◌∷◌, ◌+◌, ℕ, suc, true, List, [], Option, length, slice_get, Some}
use Rattle.currency_base.specs.declared.ids.EntId.{EntId}
use Rattle.currency_base.specs.declared.value.Value.{Value}
use Rattle.match_premises.specs.Premises.{comparisons_are}
use Rattle.query_model.specs.declared.query.Atom.{Atom}
use Rattle.query_model.specs.declared.query.Disjunct.{Disjunct}
use Rattle.query_model.specs.declared.query.Match.{Match}
use Rattle.query_model.specs.declared.query.Term.{Term}
use Rattle.query_model.specs.declared.query.Test.{Test}
use Rattle.spec_model.specs.declared.relation.Relation.{Relation}
use Rattle.ucq_answers.specs.Partly.{values_of}
use Rattle.match_candidates.specs.Places.{AtomsFit, TermsFit}
use Rattle.match_candidates.specs.Ways.{Agrees}
use Rattle.match_candidates.specs.declared.at.At.{At}

-- what is left of a search: the terms of an atom from a place on, and further atoms
pub record Left : Type 0 where
  pub at : At
  pub terms : List Term
  pub atoms : List Atom

-- after the first term that is left
abbrev pub next_left : Left → Left
next_left left = record left { at = record left.at { place = left.at.place + 1 } }

-- all terms of an atom at an entity, and these atoms after it
abbrev pub first_left : Atom → EntId → List Atom → Left
first_left atom ent atoms = record {
  at = record { rel = atom.relation; ent = ent; place = 0 };
  terms = atom.terms;
  atoms =
      atoms;
}

-- a match by the disjunct of this number that goes on from these entities and values: the terms that are left fit the entity
-- there, and the atoms that are left fit further entities
pub record IsMeant (relations : List Relation) (tests : List Test) (number : ℕ) (left : Left) (ents : List EntId)
    (b : List (Option Value)) (m : Match) : Type 0 where
  pub is_number : m.disjunct ≡ number
  pub agrees : Agrees b m.values
  pub compared : comparisons_are m.values tests ≡ true
  pub here : TermsFit relations left.at m.values left.terms
  pub more : List EntId
  pub entities : m.entities ≡ ents ++ more
  pub fitted : AtomsFit relations m.values left.atoms more

-- how many steps atoms take: one for the entity, and one for each place
abbrev pub steps_of : List Atom → ℕ
steps_of [] = 0
steps_of (atom ∷ atoms) = suc (length atom.terms + steps_of atoms)

-- a match by the disjunct of this number
pub record IsMatchBy (relations : List Relation) (d : Disjunct) (number : ℕ) (m : Match) : Type 0 where
  pub is_number : m.disjunct ≡ number
  pub per_var : length m.values ≡ d.vars
  pub compared : comparisons_are m.values d.tests ≡ true
  pub fitted : AtomsFit relations m.values d.atoms m.entities

-- by one of the disjuncts
pub record IsMatchOf (relations : List Relation) (disjuncts : List Disjunct) (m : Match) : Type 0 where
  pub disjunct : Disjunct
  pub is_disjunct : slice_get disjuncts m.disjunct ≡ Some disjunct
  pub is : IsMatchBy relations disjunct m.disjunct m

-- the match by the disjunct of this number of these entities and values
pub record IsLast (tests : List Test) (number : ℕ) (ents : List EntId) (b : List (Option Value)) (m : Match) : Type 0 where
  pub is : m ≡ record { disjunct = number; entities = ents; values = values_of b }
  pub compared : comparisons_are (values_of b) tests ≡ true
