-- Values of some of the variables, and what they say of atoms and comparisons.
use Rattle.std.specs.Prelude.{◌≡◌, ℕ, Bool, true, cond, length, List, [], ◌∷◌, Option, Some, None, slice_get, slice_set, slice_index_or, unwrap_or, option_and_then, option_map}
use Rattle.std.specs.List.{list_all}
use Rattle.currency_base.specs.Values.{value_test}
use Rattle.currency_base.specs.declared.ids.EntId.{EntId}
use Rattle.currency_base.specs.declared.value.Cmp.{Cmp}
use Rattle.currency_base.specs.declared.value.Cmp.TheVariants.{Eq}
use Rattle.currency_base.specs.declared.value.Value.{Value}
use Rattle.query_model.specs.declared.query.Atom.{Atom}
use Rattle.query_model.specs.declared.query.Term.{Term}
use Rattle.query_model.specs.declared.query.Term.TheVariants as term
use Rattle.query_model.specs.declared.query.Test.{Test}
use Rattle.query_model.specs.declared.query.TestTerm.{TestTerm}
use Rattle.query_model.specs.declared.query.TestTerm.TheVariants as test
use Rattle.query_plan.specs.Implied.{Equated}
use Rattle.query_plan.specs.Plans.{Conditioned}

-- ---- values of variables, the place of one being the variable's number

-- the value of a variable, if it has one
abbrev pub value_at : List (Option Value) → ℕ → Option Value
value_at b v = unwrap_or (slice_get b v) None

-- the values once a variable that has this value by now is given another, if it can be
abbrev pub given : Option (Option Value) → List (Option Value) → ℕ → Value → Option (List (Option Value))
given None b v x = None
given (Some None) b v x = Some (slice_set b v (Some x))
given (Some (Some y)) b v x = cond (value_test Eq y x) (Some b) None

abbrev pub bind : List (Option Value) → ℕ → Value → Option (List (Option Value))
bind b v x = given (slice_get b v) b v x

-- the values once a term fits a value, if it can
abbrev pub fit_term : List (Option Value) → Term → Value → Option (List (Option Value))
fit_term b (term.Var v) x = bind b v x
fit_term b term.Any x = Some b
fit_term b (term.Constant c) x = cond (value_test Eq c x) (Some b) None

-- the values once each of some things fits a value of a tuple, if it can
abbrev pub fit_each : {T : Type 0} → (List (Option Value) → T → Value → Option (List (Option Value)))
    → List (Option Value) → List T → List Value
    → Option (List (Option Value))
fit_each step b [] [] = Some b
fit_each step b [] (x ∷ xs) = None
fit_each step b (t ∷ ts) [] = None
fit_each step b (t ∷ ts) (x ∷ xs) = option_and_then (λ c. fit_each step c ts xs) (step b t x)

-- the values once terms fit a tuple, if they can
abbrev pub fit : List (Option Value) → List Term → List Value → Option (List (Option Value))
fit b terms tuple = fit_each fit_term b terms tuple

-- the values once variables have those of a tuple, if they can
abbrev pub bind_all : List (Option Value) → List ℕ → List Value → Option (List (Option Value))
bind_all b vars tuple = fit_each bind b vars tuple

-- the value that a term asks for, if it is known
abbrev pub asked_by : List (Option Value) → Term → Option Value
asked_by b (term.Var v) = value_at b v
asked_by b term.Any = None
asked_by b (term.Constant c) = Some c

-- the value that terms ask for at a place, if it is known
abbrev pub asked_at : List (Option Value) → List Term → ℕ → Option Value
asked_at b terms place = option_and_then (asked_by b) (slice_get terms place)

-- ---- comparisons

-- the value of a side of a comparison, if it is known
abbrev pub side_of : List (Option Value) → TestTerm → Option Value
side_of b (test.Var v) = value_at b v
side_of b (test.Constant c) = Some c

-- a comparison of two values holds, or one of them is not known
abbrev pub may_hold : Option Value → Cmp → Option Value → Bool
may_hold (Some x) cmp (Some y) = value_test cmp x y
may_hold x cmp y = true

-- no comparison whose values are known fails
abbrev pub passes : List (Option Value) → List Test → Bool
passes b tests = list_all (λ t. may_hold (side_of b t.left) t.cmp (side_of b t.right)) tests

-- ---- values that follow

-- the values once a variable has this one, if it has none
abbrev pub put_free : Option (Option Value) → List (Option Value) → ℕ → Value → List (Option Value)
put_free (Some None) b v x = slice_set b v (Some x)
put_free own b v x = b

-- the values once a variable has that of a side, if it has none and that is known
abbrev pub put_side : Option Value → List (Option Value) → ℕ → List (Option Value)
put_side (Some x) b v = put_free (slice_get b v) b v x
put_side None b v = b

-- the values once one equality after another has told what follows
abbrev pub spread : List Equated → List (Option Value) → List (Option Value)
spread [] b = b
spread (e ∷ es) b = spread es (put_side (side_of b e.side) b e.var)

-- the values once terms fit a tuple, and what follows, if they can
abbrev pub join : List Equated → List (Option Value) → List Term → List Value → Option (List (Option Value))
join equalities b terms tuple = option_map (spread equalities) (fit b terms tuple)

-- ---- values that fit

-- a term fits a value where its variable has it
abbrev pub IsFitted : List (Option Value) → Term → Value → Type 0
IsFitted b (term.Var v) x = slice_get b v ≡ Some (Some x)
IsFitted b term.Any x = Unit {0}
IsFitted b (term.Constant c) x = c ≡ x

-- all terms fit the values of a tuple
pub record AreFitted (b : List (Option Value)) (terms : List Term) (tuple : List Value) : Type 0 where
  pub as_many : length terms ≡ length tuple
  pub each : (k : ℕ) (t : Term) (x : Value) → slice_get terms k ≡ Some t → slice_get tuple k ≡ Some x → IsFitted b t x

-- ---- the head

abbrev pub put_before : Option Value → Option (List Value) → Option (List Value)
put_before (Some x) (Some xs) = Some (x ∷ xs)
put_before x xs = None

-- the values of the head's variables, if they all have one
abbrev pub head_at : List (Option Value) → List ℕ → Option (List Value)
head_at b [] = Some []
head_at b (v ∷ vs) = put_before (value_at b v) (head_at b vs)

-- the values that variables have
abbrev pub values_of : List (Option Value) → List Value
values_of [] = []
values_of (None ∷ b) = values_of b
values_of (Some x ∷ b) = x ∷ values_of b

-- ---- what is reached from some values

-- the tuples of an atom's relation
abbrev pub tuples_of : List (List (List Value)) → Atom → List (List Value)
tuples_of instance atom = slice_index_or instance atom.relation.0 []

-- the values once an atom's terms fit one of these tuples
pub record IsFit (tuples : List (List Value)) (terms : List Term) (b c : List (Option Value)) : Type 0 where
  pub place : ℕ
  pub tuple : List Value
  pub is_tuple : slice_get tuples place ≡ Some tuple
  pub fits : fit b terms tuple ≡ Some c

-- the values once an atom's terms fit one of them, and what follows
pub record IsJoined (equalities : List Equated) (tuples : List (List Value)) (terms : List Term)
    (b c : List (Option Value)) : Type 0 where
  pub place : ℕ
  pub tuple : List Value
  pub is_tuple : slice_get tuples place ≡ Some tuple
  pub joins : join equalities b terms tuple ≡ Some c

-- the values once an atom's terms fit the tuple at a place, and what follows, if they can
abbrev pub joined_at : List Equated → List (List (List Value)) → Atom → List (Option Value) → EntId
    → Option (List (Option Value))
joined_at equalities instance atom b ent = option_and_then (λ tuple. join equalities b atom.terms tuple)
    (slice_get (tuples_of instance atom) ent.0)

-- the values once each atom's terms fit a tuple, atom by atom
abbrev pub Reached : List Equated → List (List (List Value)) → List Atom → List (Option Value) → List (Option Value) → Type 0
Reached equalities instance [] b c = b ≡ c
Reached equalities instance (atom ∷ atoms) b c = (next : List (Option Value)) × IsJoined equalities
    (tuples_of instance atom) atom.terms b next × Reached equalities instance atoms next c

-- some values that are reached, of which no comparison fails
pub record IsSolution (instance : List (List (List Value))) (conditions : Conditioned) (atoms : List Atom)
    (b c : List (Option Value)) : Type 0 where
  pub reached : Reached conditions.equalities instance atoms b c
  pub passed : passes c conditions.tests ≡ true

-- the tuple is the head's values in some of them
pub record IsHeadOfSome (instance : List (List (List Value))) (conditions : Conditioned) (head : List ℕ) (atoms : List Atom)
    (b : List (Option Value)) (tuple : List Value) : Type 0 where
  pub values : List (Option Value)
  pub solution : IsSolution instance conditions atoms b values
  pub is_head : head_at values head ≡ Some tuple
