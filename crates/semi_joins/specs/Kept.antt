-- Which rows of the relations of atoms can take part in a match.
use Rattle.std.specs.Prelude.{◌≡◌, ℕ, Bool, true, false, List, [], All, Contains, Option, Some, map, slice_get, slice_index_or}
use Rattle.std.specs.Cmp.Lexicographic.{slice_cmp}
use Rattle.std.specs.List.{AllZip, list_any}
use Rattle.std.specs.Option.{option_cmp}
use Rattle.std.specs.Ordering.{is_eq}
use Rattle.currency_base.specs.Values.{value_cmp}
use Rattle.currency_base.specs.declared.value.Value.{Value}
use Rattle.query_model.specs.Answers.{AtomHolds, FitsTuple, TestHolds}
use Rattle.query_model.specs.declared.query.Atom.{Atom}
use Rattle.query_model.specs.declared.query.Term.{Term}
use Rattle.query_model.specs.declared.query.Test.{Test}

-- for each row of a relation whether it is kept
abbrev pub Marks : Type 0
Marks = List Bool

-- is the row of a place kept?
abbrev pub is_kept : List Bool → ℕ → Bool
is_kept marks place = slice_index_or marks place false

-- ---- what is kept

-- values for which these atoms and comparisons hold
pub record IsMatched (instance : List (List (List Value))) (atoms : List Atom) (tests : List Test)
    (values : List Value) : Type 0 where
  pub hold : All (AtomHolds instance values) atoms
  pub pass : All (TestHolds values) tests

-- each row of an atom's relation that the atom fits wherever all atoms and comparisons hold is kept
abbrev pub KeepsAll : List (List (List Value)) → List Atom → List Test → Atom → List Bool → Type 0
KeepsAll instance atoms tests atom marks = (values : List Value) (place : ℕ) (row : List Value)
    → IsMatched instance atoms tests values → slice_get (slice_index_or instance atom.relation.0 []) place ≡ Some row
    → FitsTuple values atom.terms row → is_kept marks place ≡ true

-- for each atom such marks
abbrev pub AreKept : List (List (List Value)) → List Atom → List Test → List (List Bool) → Type 0
AreKept instance atoms tests kept = AllZip (KeepsAll instance atoms tests) atoms kept

-- what were such marks are such marks still
abbrev pub StayKept : List (List (List Value)) → List Atom → List Test → List (List Bool) → List (List Bool) → Type 0
StayKept instance atoms tests old new = AreKept instance atoms tests old → AreKept instance atoms tests new

-- each of some rows of whose place something is so is kept
abbrev pub Keeps : (ℕ → List Value → Type 0) → List (List Value) → List Bool → Type 0
Keeps IsSo rows marks = (place : ℕ) (row : List Value) → slice_get rows place ≡ Some row → IsSo place row
    → is_kept marks place ≡ true

-- ---- one row

-- for some values for which comparisons hold terms fit a row
pub record CanFit (tests : List Test) (terms : List Term) (row : List Value) : Type 0 where
  pub values : List Value
  pub pass : All (TestHolds values) tests
  pub fits : FitsTuple values terms row

-- where terms fit a row a variable, or a side, has a value
abbrev pub IsTold : List Term → List Value → (List Value → Option Value) → Value → Type 0
IsTold terms row of x = (values : List Value) → FitsTuple values terms row → of values ≡ Some x

-- ---- two rows

-- the values of a row at places
abbrev pub key_at : List ℕ → List Value → List (Option Value)
key_at places row = map (λ place. slice_get row place) places

-- the values of a row at some places
abbrev pub KeyValues : Type 0
KeyValues = List (Option Value)

-- those of some rows
abbrev pub Keys : Type 0
Keys = List (List (Option Value))

-- values are among these
abbrev pub is_key : List (List (Option Value)) → List (Option Value) → Bool
is_key keys key = list_any (λ other. is_eq (slice_cmp (option_cmp value_cmp) key other)) keys

-- the values at places of those of some rows that are kept are among these
abbrev pub AreNoted : List (List Value) → List Bool → List ℕ → List (List (Option Value)) → Type 0
AreNoted rows marks places keys = (place : ℕ) (row : List Value) → slice_get rows place ≡ Some row → is_kept marks place ≡ true
    → is_key keys (key_at places row) ≡ true

-- one of some rows that is kept has the values there that this one has here
pub record HasPartner (others : List (List Value)) (marks : List Bool) (here there : List ℕ) (row : List Value) : Type 0 where
  pub place : ℕ
  pub other : List Value
  pub at : slice_get others place ≡ Some other
  pub kept : is_kept marks place ≡ true
  pub same : key_at here row ≡ key_at there other

-- a row is kept, and has a partner
pub record IsJoined (marks : List Bool) (others : List (List Value)) (theirs : List Bool) (here there : List ℕ) (place : ℕ)
    (row : List Value) : Type 0 where
  pub kept : is_kept marks place ≡ true
  pub partner : HasPartner others theirs here there row

-- where comparisons hold and terms fit a row its value at a place is that of a variable
abbrev pub IsLedAt : List Test → List Term → ℕ → ℕ → Type 0
IsLedAt tests terms place led = (values row : List Value) → All (TestHolds values) tests → FitsTuple values terms row
    → slice_get row place ≡ slice_get values led

-- where they hold and terms fit two rows, these have one value at two places
abbrev pub IsLink : List Test → List Term → List Term → ℕ → ℕ → Type 0
IsLink tests ones others here there = (values a b : List Value) → All (TestHolds values) tests → FitsTuple values ones a
    → FitsTuple values others b → slice_get a here ≡ slice_get b there

-- the same values at places
abbrev pub AreLinks : List Test → List Term → List Term → List ℕ → List ℕ → Type 0
AreLinks tests ones others here there = (values a b : List Value) → All (TestHolds values) tests → FitsTuple values ones a
    → FitsTuple values others b → key_at here a ≡ key_at there b

-- wherever another atom is among the atoms, and marks keep its rows: where the old marks keep those of one, the new do too
abbrev pub StaysAll : List (List (List Value)) → List Test → Atom → Atom → List Bool → List Bool → List Bool → Type 0
StaysAll instance tests one other old theirs new = (atoms : List Atom) → Contains atoms other
    → KeepsAll instance atoms tests one old → KeepsAll instance atoms tests other theirs → KeepsAll instance atoms tests one new
