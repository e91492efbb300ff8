-- Queries that fit the relations of a specification.
use Rattle.std.specs.Prelude.{◌≡◌, ◌+◌, ◌≤◌, ℕ, List, ◌∷◌, length, map, All, Option, Some, slice_get}
use Rattle.currency_base.specs.Values.{kind_of}
use Rattle.currency_base.specs.declared.value.ValueKind.{ValueKind}
use Rattle.currency_base.specs.declared.value.ValueKind.TheVariants.{Text}
use Rattle.query_model.specs.Fitting.{IsQuery}
use Rattle.query_model.specs.declared.query.Atom.{Atom}
use Rattle.query_model.specs.declared.query.Disjunct.{Disjunct}
use Rattle.query_model.specs.declared.query.Query.{Query}
use Rattle.query_model.specs.declared.query.Term.{Term}
use Rattle.query_model.specs.declared.query.Term.TheVariants as term
use Rattle.query_model.specs.declared.query.Test.{Test}
use Rattle.query_model.specs.declared.query.TestTerm.{TestTerm}
use Rattle.query_model.specs.declared.query.TestTerm.TheVariants as test
use Rattle.spec_model.specs.Facts.{kinds_of}
use Rattle.spec_model.specs.declared.relation.Relation.{Relation}

-- the kinds of an atom's places: the entity's name is text, and each further place is of the kind of an attribute
abbrev pub place_kinds : Relation → List ValueKind
place_kinds r = Text ∷ kinds_of r

-- what stands at a place has the kind of the place, where the variables have these kinds
abbrev pub IsTermOn : List ValueKind → Option ValueKind → Term → Type 0
IsTermOn kinds kind (term.Var v) = slice_get kinds v ≡ kind
IsTermOn kinds kind term.Any = Unit {0}
IsTermOn kinds kind (term.Constant c) = Some (kind_of c) ≡ kind

-- an atom of one of the relations, with one place more than the relation has attributes, and each place of its kind
pub record IsAtomOn (relations : List Relation) (kinds : List ValueKind) (atom : Atom) : Type 0 where
  pub relation : Relation
  pub is_relation : slice_get relations atom.relation.0 ≡ Some relation
  pub as_many : length atom.terms ≡ length relation.attrs + 1
  pub terms : (k : ℕ) (t : Term) → slice_get atom.terms k ≡ Some t → IsTermOn kinds (slice_get (place_kinds relation) k) t

-- the kind of a side of a comparison
abbrev pub side_kind : List ValueKind → TestTerm → Option ValueKind
side_kind kinds (test.Var v) = slice_get kinds v
side_kind kinds (test.Constant c) = Some (kind_of c)

-- the sides of a comparison have one kind
pub record IsTestOn (kinds : List ValueKind) (t : Test) : Type 0 where
  pub kind : ValueKind
  pub left : side_kind kinds t.left ≡ Some kind
  pub right : side_kind kinds t.right ≡ Some kind

-- a disjunct that is small enough, whose variables have one kind each; those of its head have these kinds
pub record IsDisjunctOn (relations : List Relation) (heads : List ValueKind) (d : Disjunct) : Type 0 where
  pub few_atoms : length d.atoms ≤ 8
  pub few_tests : length d.tests ≤ 16
  pub few_vars : d.vars ≤ 32
  pub kinds : List ValueKind
  pub per_var : length kinds ≡ d.vars
  pub atoms : All (IsAtomOn relations kinds) d.atoms
  pub tests : All (IsTestOn kinds) d.tests
  pub head : map (slice_get kinds) d.head ≡ map (λ kind. Some kind) heads

-- a query of a few such disjuncts, whose heads have places of the same kinds; a document's has 16 at most, and one that is made
-- for a match (that one of its values is another) a disjunct for each value that its atoms look at
pub record IsQueryOn (relations : List Relation) (q : Query) : Type 0 where
  pub is_query : IsQuery q
  pub few : length q.disjuncts ≤ 256
  pub heads : List ValueKind
  pub disjuncts : All (IsDisjunctOn relations heads) q.disjuncts
