-- What the answers of a query over an instance are. An instance has for each relation one tuple per entity.
use Rattle.std.specs.Prelude.{◌≡◌, ◌<◌, ◌≤◌, ℕ, Bool, true, false, List, [], All, Contains, Option, Some, None, length, map, slice_get, slice_index_or}
use Rattle.std.specs.Cmp.Lexicographic.{slice_cmp}
use Rattle.std.specs.declared.cmp.Ordering.TheVariants.{Less}
use Rattle.currency_base.specs.Lists.{OnlyOnce}
use Rattle.currency_base.specs.Values.{value_cmp, value_test}
use Rattle.currency_base.specs.declared.ids.EntId.{EntId}
use Rattle.currency_base.specs.declared.value.Cmp.{Cmp}
use Rattle.currency_base.specs.declared.value.Value.{Value}
use Rattle.query_model.specs.declared.query.Atom.{Atom}
use Rattle.query_model.specs.declared.query.Disjunct.{Disjunct}
use Rattle.query_model.specs.declared.query.Match.{Match}
use Rattle.query_model.specs.declared.query.Query.{Query}
use Rattle.query_model.specs.declared.query.Term.{Term}
use Rattle.query_model.specs.declared.query.Term.TheVariants as term
use Rattle.query_model.specs.declared.query.Test.{Test}
use Rattle.query_model.specs.declared.query.TestTerm.{TestTerm}
use Rattle.query_model.specs.declared.query.TestTerm.TheVariants as test

-- ---- what holds of values of the variables, the place of a value being the variable's number

-- a term fits a value
abbrev pub Fits : List Value → Term → Value → Type 0
Fits values (term.Var v) x = slice_get values v ≡ Some x
Fits values term.Any x = Unit {0}
Fits values (term.Constant c) x = c ≡ x

-- as many terms as the tuple has values, each of which its term fits
pub record FitsTuple (values : List Value) (terms : List Term) (tuple : List Value) : Type 0 where
  pub as_many : length terms ≡ length tuple
  pub each : (k : ℕ) (t : Term) (x : Value) → slice_get terms k ≡ Some t → slice_get tuple k ≡ Some x → Fits values t x

-- the relation has a tuple which the atom's terms fit
pub record AtomHolds (instance : List (List (List Value))) (values : List Value) (atom : Atom) : Type 0 where
  pub tuple : List Value
  pub is_there : Contains (slice_index_or instance atom.relation.0 []) tuple
  pub fits : FitsTuple values atom.terms tuple

-- the value of a side of a comparison, if it has one
abbrev pub value_of : List Value → TestTerm → Option Value
value_of values (test.Var v) = slice_get values v
value_of values (test.Constant c) = Some c

-- a comparison of two values holds; where one is missing it does not
abbrev pub is_compared : Option Value → Cmp → Option Value → Bool
is_compared (Some a) cmp (Some b) = value_test cmp a b
is_compared a cmp b = false

abbrev pub TestHolds : List Value → Test → Type 0
TestHolds values t = is_compared (value_of values t.left) t.cmp (value_of values t.right) ≡ true

-- one value per variable, for which each atom and each comparison of a disjunct holds
pub record Meets (instance : List (List (List Value))) (d : Disjunct) (values : List Value) : Type 0 where
  pub per_var : length values ≡ d.vars
  pub atoms : All (AtomHolds instance values) d.atoms
  pub tests : All (TestHolds values) d.tests

-- the tuple is the values of these variables
abbrev pub IsHead : List Value → List ℕ → List Value → Type 0
IsHead values head tuple = map (λ v. slice_get values v) head ≡ map (λ x. Some x) tuple

-- ---- answers

pub record IsAnswer (q : Query) (instance : List (List (List Value))) (tuple : List Value) : Type 0 where
  pub disjunct : Disjunct
  pub is_disjunct : Contains q.disjuncts disjunct
  pub values : List Value
  pub meets : Meets instance disjunct values
  pub is_head : IsHead values disjunct.head tuple

-- the first of two tuples is below the other
abbrev pub IsBelow : List Value → List Value → Type 0
IsBelow a b = slice_cmp value_cmp a b ≡ Less

-- each tuple is below those after it
abbrev pub AreAscending : List (List Value) → Type 0
AreAscending tuples = (i j : ℕ) (a b : List Value) → i < j → slice_get tuples i ≡ Some a → slice_get tuples j ≡ Some
    b → IsBelow a b

-- exactly the answers, ascending
pub record AreAnswers (q : Query) (instance : List (List (List Value))) (tuples : List (List Value)) : Type 0 where
  pub each : All (IsAnswer q instance) tuples
  pub all : (tuple : List Value) → IsAnswer q instance tuple → Contains tuples tuple
  pub ascending : AreAscending tuples

-- there are more answers than so many
pub record HasMore (q : Query) (instance : List (List (List Value))) (bound : ℕ) : Type 0 where
  pub some : List (List Value)
  pub each : All (IsAnswer q instance) some
  pub once : OnlyOnce some
  pub more : bound < length some

-- ---- matches

-- the tuple of an entity of the atom's relation which the atom's terms fit
pub record AtomMatches (instance : List (List (List Value))) (values : List Value) (atom : Atom) (ent : ℕ) : Type 0 where
  pub tuple : List Value
  pub is_tuple : slice_get (slice_index_or instance atom.relation.0 []) ent ≡ Some tuple
  pub fits : FitsTuple values atom.terms tuple

-- by this disjunct, by the tuples of these entities, and by these values the tuple is an answer
pub record IsMatch (q : Query) (instance : List (List (List Value))) (tuple : List Value) (m : Match) : Type 0 where
  pub disjunct : Disjunct
  pub is_disjunct : slice_get q.disjuncts m.disjunct ≡ Some disjunct
  pub meets : Meets instance disjunct m.values
  pub is_head : IsHead m.values disjunct.head tuple
  pub per_atom : length m.entities ≡ length disjunct.atoms
  pub atoms : (k : ℕ) (atom : Atom) (ent : EntId) → slice_get disjunct.atoms k ≡ Some atom → slice_get m.entities k ≡ Some ent
      → AtomMatches instance m.values atom ent.0
