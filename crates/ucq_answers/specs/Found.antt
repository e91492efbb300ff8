-- What a search finds.
use Rattle.std.specs.Prelude.{◌≡◌, ◌<◌, ◌⊎◌, ℕ, Bool, true, false, List, ◌∷◌, ◌++◌, Option, Some, None, All, Contains, length, map, slice_get}
use Rattle.std.specs.List.{AllZip}
use Rattle.currency_base.specs.declared.ids.EntId.{EntId}
use Rattle.currency_base.specs.declared.value.Value.{Value}
use Rattle.query_model.specs.Answers.{AtomMatches, IsAnswer, IsHead, IsMatch, Meets}
use Rattle.query_model.specs.declared.query.Atom.{Atom}
use Rattle.query_model.specs.declared.query.Disjunct.{Disjunct}
use Rattle.query_model.specs.declared.query.Match.{Match}
use Rattle.query_model.specs.declared.query.Query.{Query}
use Rattle.query_plan.specs.Plans.{Conditioned}
use Rattle.ucq_answers.specs.Partly.{IsFit, IsHeadOfSome, IsSolution, fit, joined_at, tuples_of, values_of}

-- a solution, or none where there is none
abbrev pub IsFound : List (List (List Value)) → Conditioned → List Atom → List (Option Value)
    → Option (List (Option Value)) → Type 0
IsFound instance conditions atoms b None = (c : List (Option Value)) → IsSolution instance conditions atoms b c → ⊥
IsFound instance conditions atoms b (Some c) = IsSolution instance conditions atoms b c

-- no solution begins with the tuple at this place
abbrev pub NoneAt : List (List (List Value)) → Conditioned → Atom → List Atom → List (Option Value) → EntId → Type 0
NoneAt instance conditions atom rest b ent = (next c : List (Option Value))
    → joined_at conditions.equalities instance atom b ent ≡ Some next → IsSolution instance conditions rest next c → ⊥

-- a solution that begins with it, or none where none does
abbrev pub IsFoundAt : List (List (List Value)) → Conditioned → Atom → List Atom → List (Option Value) → EntId
    → Option (List (Option Value)) → Type 0
IsFoundAt instance conditions atom rest b ent None = NoneAt instance conditions atom rest b ent
IsFoundAt instance conditions atom rest b ent (Some c) = IsSolution instance conditions (atom ∷ rest) b c

-- the tuple is the head of a solution that begins with the tuple at this place
pub record IsHeadAt (instance : List (List (List Value))) (conditions : Conditioned) (head : List ℕ) (atom : Atom)
    (rest : List Atom) (b : List (Option Value)) (ent : EntId)
    (tuple : List Value) : Type 0 where
  pub next : List (Option Value)
  pub fits : Some next ≡ joined_at conditions.equalities instance atom b ent
  pub head_below : IsHeadOfSome instance conditions head rest next tuple

-- ---- sets of answers

-- tuples, each once, with a bound on how many are wanted
pub record Bounded : Type 0 where
  pub at_most : ℕ
  pub tuples : List (List Value)

-- the tuples that are meant are added, and nothing else; or there are too many
pub record Adds (IsMeant : List Value → Type 0) (old new : Bounded) (is_full : Bool) : Type 0 where
  pub at_most : new.at_most ≡ old.at_most
  pub kept : (tuple : List Value) → Contains old.tuples tuple → Contains new.tuples tuple
  pub sound : (tuple : List Value) → Contains new.tuples tuple → Contains old.tuples tuple ⊎ IsMeant tuple
  pub complete : is_full ≡ false → (tuple : List Value) → IsMeant tuple → Contains new.tuples tuple
  pub full : is_full ≡ true → new.at_most < length new.tuples

-- by this disjunct the tuple is an answer
pub record IsAnswerBy (instance : List (List (List Value))) (d : Disjunct) (tuple : List Value) : Type 0 where
  pub values : List Value
  pub meets : Meets instance d values
  pub is_head : IsHead values d.head tuple

-- by one of these disjuncts it is
abbrev pub IsAnswerOf : List Disjunct → List (List (List Value)) → List Value → Type 0
IsAnswerOf disjuncts instance tuple = let q : Query = record { disjuncts = disjuncts } in IsAnswer q instance tuple

-- ---- matches

-- values of all variables that meet a disjunct and have the tuple as head
pub record IsMet (instance : List (List (List Value))) (d : Disjunct) (tuple : List Value)
    (c : List (Option Value)) : Type 0 where
  pub same : c ≡ map (λ x. Some x) (values_of c)
  pub meets : Meets instance d (values_of c)
  pub is_head : IsHead (values_of c) d.head tuple

-- such values, or none where there are none
abbrev pub IsMetFound : List (List (List Value)) → Disjunct → List Value → Option (List (Option Value)) → Type 0
IsMetFound instance d tuple None = IsAnswerBy instance d tuple → ⊥
IsMetFound instance d tuple (Some c) = IsMet instance d tuple c

-- terms fit the tuple at a place
pub record FitsAt (instance : List (List (List Value))) (b : List (Option Value)) (atom : Atom) (ent : EntId) : Type 0 where
  pub tuple : List Value
  pub next : List (Option Value)
  pub is_tuple : slice_get (tuples_of instance atom) ent.0 ≡ Some tuple
  pub fits : fit b atom.terms tuple ≡ Some next

-- the place of a tuple that an atom fits, or none where there is none
abbrev pub IsEntity : List (List (List Value)) → List (Option Value) → Atom → Option EntId → Type 0
IsEntity instance b atom None = (c : List (Option Value)) → IsFit (tuples_of instance atom) atom.terms b c → ⊥
IsEntity instance b atom (Some ent) = FitsAt instance b atom ent

-- one of the atoms fits no tuple
pub record HasUnfit (instance : List (List (List Value))) (b : List (Option Value)) (atoms : List Atom) : Type 0 where
  pub atom : Atom
  pub is_atom : Contains atoms atom
  pub none : IsEntity instance b atom None

-- for each atom the place of a tuple that it fits, or one of them fits none
abbrev pub AreEntities : List (List (List Value)) → List (Option Value) → List Atom → Option (List EntId) → Type 0
AreEntities instance b atoms None = HasUnfit instance b atoms
AreEntities instance b atoms (Some ents) = AllZip (FitsAt instance b) atoms ents

-- a match by this disjunct, whose number it has
pub record IsMatchBy (instance : List (List (List Value))) (d : Disjunct) (number : ℕ) (tuple : List Value)
    (m : Match) : Type 0 where
  pub is_number : m.disjunct ≡ number
  pub meets : Meets instance d m.values
  pub is_head : IsHead m.values d.head tuple
  pub per_atom : length m.entities ≡ length d.atoms
  pub atoms : (k : ℕ) (atom : Atom) (ent : EntId) → slice_get d.atoms k ≡ Some atom → slice_get m.entities k ≡ Some ent
      → AtomMatches instance m.values atom ent.0

-- a match by this disjunct, or none where there is none
abbrev pub IsMatchFound : List (List (List Value)) → Disjunct → ℕ → List Value → Option Match → Type 0
IsMatchFound instance d number tuple None = IsAnswerBy instance d tuple → ⊥
IsMatchFound instance d number tuple (Some m) = IsMatchBy instance d number tuple m

-- a match by one of these disjuncts, or none where there is none
abbrev pub IsMatchOf : List Disjunct → List (List (List Value)) → List Value → Option Match → Type 0
IsMatchOf disjuncts instance tuple None = IsAnswerOf disjuncts instance tuple → ⊥
IsMatchOf disjuncts instance tuple (Some m) = let q : Query = record { disjuncts = disjuncts } in IsMatch q instance tuple m

-- a match by one of these disjuncts
abbrev pub IsMatchAmong : List Disjunct → List (List (List Value)) → List Value → Match → Type 0
IsMatchAmong disjuncts instance tuple m = let q : Query = record { disjuncts = disjuncts } in IsMatch q instance tuple m

-- ---- several matches

-- matches, with a bound on how many are wanted
pub record Wanted : Type 0 where
  pub at_most : ℕ
  pub matches : List Match

-- some matches that are meant are added, and nothing else
pub record AddsMatches (IsMeant : Match → Type 0) (old new : Wanted) : Type 0 where
  pub at_most : new.at_most ≡ old.at_most
  pub added : List Match
  pub is_added : new.matches ≡ old.matches ++ added
  pub each : All IsMeant added

-- just this match
abbrev pub IsThis : Match → Match → Type 0
IsThis m other = other ≡ m

-- the places of tuples that an atom fits
abbrev pub AllFitAt : List (List (List Value)) → List (Option Value) → Atom → List EntId → Type 0
AllFitAt instance b atom ents = All (FitsAt instance b atom) ents

-- one of these places
abbrev pub IsOneOf : List EntId → EntId → Type 0
IsOneOf ents ent = Contains ents ent

-- a match by these values, at tuples that the atoms fit
pub record IsMatchWith (instance : List (List (List Value))) (atoms : List Atom) (number : ℕ) (c : List (Option Value))
    (m : Match) : Type 0 where
  pub is_number : m.disjunct ≡ number
  pub is_values : m.values ≡ values_of c
  pub entities : AllZip (FitsAt instance c) atoms m.entities

-- a match by values that go on from some, for which each atom of these steps holds and no comparison fails
pub record IsMatchFrom (instance : List (List (List Value))) (conditions : Conditioned) (atoms : List Atom) (number : ℕ)
    (steps : List Atom) (b : List (Option Value)) (m : Match) : Type 0 where
  pub values : List (Option Value)
  pub solution : IsSolution instance conditions steps b values
  pub is_match : IsMatchWith instance atoms number values m
