-- Atoms that are searched, and which tuples of their relations can take part in a match.
use Rattle.std.specs.Prelude.{◌≡◌, ℕ, Bool, true, List, [], ◌∷◌, Contains, Option, None, Some, IfSome, map, slice_get}
use Rattle.std.specs.Bool.{OnTrue}
use Rattle.currency_base.specs.declared.value.Value.{Value}
use Rattle.query_model.specs.Answers.{Meets}
use Rattle.query_model.specs.Fitting.{IsDisjunct}
use Rattle.query_model.specs.declared.query.Atom.{Atom}
use Rattle.query_model.specs.declared.query.Disjunct.{Disjunct}
use Rattle.query_plan.specs.Plans.{AreSameAtoms, Conditioned}
use Rattle.semi_joins.specs.Kept.{KeepsAll, is_kept}
use Rattle.ucq_answers.specs.Partly.{AreFitted, IsSolution, tuples_of}

-- an atom, and which tuples of its relation are kept, if this is told
pub record KeptAtom : Type 0 where
  pub atom : Atom
  pub kept : Option (List Bool)

-- the atoms
abbrev pub atoms_of : List KeptAtom → List Atom
atoms_of atoms = map (λ s. s.atom) atoms

-- atoms, each with its marks as far as there are some
abbrev pub zip_kept : List Atom → List (List Bool) → List KeptAtom
zip_kept [] kept = []
zip_kept (atom ∷ atoms) [] = record { atom = atom; kept = None } ∷ zip_kept atoms []
zip_kept (atom ∷ atoms) (marks ∷ kept) = record { atom = atom; kept = Some marks } ∷ zip_kept atoms kept

-- the tuple of a place is kept, or nothing is told
abbrev pub keeps : Option (List Bool) → ℕ → Bool
keeps None place = true
keeps (Some marks) place = is_kept marks place

-- a disjunct, its atoms as they are searched, and whether it is said to have no match
pub record Prepared : Type 0 where
  pub disjunct : Disjunct
  pub atoms : List KeptAtom
  pub is_unmatched : Bool

-- the disjuncts
abbrev pub disjuncts_of : List Prepared → List Disjunct
disjuncts_of prepared = map (λ p. p.disjunct) prepared

-- the disjunct fits, and its atoms are all there
pub record IsPrepared (d : Disjunct) (atoms : List KeptAtom) : Type 0 where
  pub fits : IsDisjunct d
  pub same : AreSameAtoms d.atoms (atoms_of atoms)

-- over this instance each tuple that takes part in a match is kept, and where it is said that there is no match there is none
pub record IsPreparedFor (instance : List (List (List Value))) (p : Prepared) : Type 0 where
  pub kept : (s : KeptAtom) → Contains p.atoms s → IfSome s.kept (KeepsAll instance (atoms_of p.atoms) p.disjunct.tests s.atom)
  pub none : OnTrue p.is_unmatched ((values : List Value) → Meets instance p.disjunct values → ⊥)

-- each tuple that an atom fits is kept
abbrev pub FitsKept : List (List (List Value)) → List (Option Value) → KeptAtom → Type 0
FitsKept instance c s = (place : ℕ) (tuple : List Value) → slice_get (tuples_of instance s.atom) place ≡ Some tuple
    → AreFitted c s.atom.terms tuple → keeps s.kept place ≡ true

-- wherever values go on to a solution
abbrev pub FitKept : List (List (List Value)) → Conditioned → List KeptAtom → List (Option Value) → Type 0
FitKept instance conditions atoms b = (c : List (Option Value)) → IsSolution instance conditions (atoms_of atoms) b c
    → (s : KeptAtom) → Contains atoms s → FitsKept instance c s
