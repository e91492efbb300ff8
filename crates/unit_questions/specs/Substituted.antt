-- A query that asks whether a tuple is an answer of another: in each disjunct the variables of the head stand for the
-- tuple's values.
use Rattle.std.specs.Prelude.{◌==◌, ℕ, Bool, true, false, List, [], ◌∷◌, map, Option, Some, None, if◌then◌else◌, ◌&&◌}
use Rattle.std.specs.List.{count_by, range_with_len}
use Rattle.std.specs.Option.{is_none}
use Rattle.currency_base.specs.Values.{value_test}
use Rattle.currency_base.specs.declared.value.Cmp.TheVariants as cmp
use Rattle.currency_base.specs.declared.value.Value.{Value}
use Rattle.query_model.specs.declared.query.Atom.{Atom}
use Rattle.query_model.specs.declared.query.Disjunct.{Disjunct}
use Rattle.query_model.specs.declared.query.Query.{Query}
use Rattle.query_model.specs.declared.query.Term.{Term}
use Rattle.query_model.specs.declared.query.Term.TheVariants as term
use Rattle.query_model.specs.declared.query.Test.{Test}
use Rattle.query_model.specs.declared.query.TestTerm.{TestTerm}
use Rattle.query_model.specs.declared.query.TestTerm.TheVariants as test

-- the value that a variable has by a head and its tuple: that at its first place in the head
abbrev pub given_value : List ℕ → List Value → ℕ → Option Value
given_value [] tuple v = None
given_value (w ∷ head) [] v = None
given_value (w ∷ head) (x ∷ tuple) v = if w == v then Some x else given_value head tuple v

-- the number of a variable among those that have no value so
abbrev pub left_number : (ℕ → Option Value) → ℕ → ℕ
left_number given v = count_by (λ w. is_none (given w)) (range_with_len 0 v)

-- what stands at a place of an atom, then
abbrev pub value_or_var : {X : Type 0} → (Value → X) → X → Option Value → X
value_or_var constant variable (Some x) = constant x
value_or_var constant variable None = variable

abbrev pub given_term : (ℕ → Option Value) → Term → Term
given_term given (term.Var v) = value_or_var (λ x. term.Constant x) (term.Var (left_number given v)) (given v)
given_term given term.Any = term.Any
given_term given (term.Constant x) = term.Constant x

abbrev pub given_side : (ℕ → Option Value) → TestTerm → TestTerm
given_side given (test.Var v) = value_or_var (λ x. test.Constant x) (test.Var (left_number given v)) (given v)
given_side given (test.Constant x) = test.Constant x

abbrev pub given_atom : (ℕ → Option Value) → Atom → Atom
given_atom given atom = record atom { terms = map (given_term given) atom.terms }

abbrev pub given_test : (ℕ → Option Value) → Test → Test
given_test given t = record t { left = given_side given t.left; right = given_side given t.right }

-- a disjunct with these values for its head
abbrev pub given_disjunct : List Value → Disjunct → Disjunct
given_disjunct tuple d =
    let given : ℕ → Option Value = given_value d.head tuple in
    record {
      head = [];
      atoms = map (given_atom given) d.atoms;
      tests = map (given_test given) d.tests;
      vars = left_number given d.vars;
    }

-- a value is the one that a variable has, if it has one
abbrev pub is_value : Value → Option Value → Bool
is_value x (Some y) = value_test cmp.Eq y x
is_value x None = false

-- a tuple fits a head: as many values as the head has places, and one value for each variable
abbrev pub fits_head : (ℕ → Option Value) → List ℕ → List Value → Bool
fits_head given [] [] = true
fits_head given (v ∷ head) (x ∷ tuple) = is_value x (given v) && fits_head given head tuple
fits_head given head tuple = false

-- the disjuncts whose heads a tuple fits, with its values
abbrev pub given_disjuncts : List Value → List Disjunct → List Disjunct
given_disjuncts tuple [] = []
given_disjuncts tuple (d ∷ disjuncts) =
    if fits_head (given_value d.head tuple) d.head tuple then given_disjunct tuple d ∷ given_disjuncts tuple disjuncts
    else given_disjuncts tuple disjuncts

-- the query with the tuple's values for its heads
abbrev pub given_query : List Value → Query → Query
given_query tuple query = record { disjuncts = given_disjuncts tuple query.disjuncts }
