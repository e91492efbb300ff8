-- When a comparison for equality holds, and when tuples are equal.
use Rattle.std.proofs.Common.{◌≡◌, true, refl, ap, List, [], ◌∷◌}
use Rattle.std.specs.Cmp.Lexicographic.{slice_cmp}
use Rattle.std.specs.Ordering.{ordering_reverse, ordering_then}
use Rattle.std.specs.declared.cmp.Ordering.{Ordering}
use Rattle.std.specs.declared.cmp.Ordering.TheVariants.{Less, Equal, Greater}
use Rattle.std.proofs.lemmas.Bool.{false≢true}
use Rattle.currency_base.specs.Values.{holds_at, value_cmp, value_test}
use Rattle.currency_base.specs.declared.value.Cmp.TheVariants.{Eq}
use Rattle.currency_base.specs.declared.value.Value.{Value}
use Rattle.ucq_answers.specs.TupleOrder.{exact_values, tuple_total, value_antisymm}

reversed_equal : (o : Ordering) → o ≡ ordering_reverse o → o ≡ Equal
reversed_equal Less is = cc
reversed_equal Equal is = refl
reversed_equal Greater is = cc

-- a value stands to itself as an equal one
pub value_same : (v : Value) → value_cmp v v ≡ Equal
value_same v = reversed_equal (value_cmp v v) (value_antisymm v v)

pub tuple_same : (t : List Value) → slice_cmp value_cmp t t ≡ Equal
tuple_same t = reversed_equal (slice_cmp value_cmp t t) (tuple_total.antisymm t t)

pub same_test : (v : Value) → value_test Eq v v ≡ true
same_test v = ap (holds_at Eq) (value_same v)

pub tested_same : (a b : Value) → value_test Eq a b ≡ true → a ≡ b
tested_same a b is = exact_values a b (by (value_cmp a b) is)
  where
    by : (o : Ordering) → holds_at Eq o ≡ true → o ≡ Equal
    by Less holds = absurd (false≢true holds)
    by Equal holds = refl
    by Greater holds = absurd (false≢true holds)

both_equal : (o p : Ordering) → ordering_then o p ≡ Equal → (o ≡ Equal) × (p ≡ Equal)
both_equal Less p e = cc
both_equal Equal p e = (refl, e)
both_equal Greater p e = cc

pub exact_tuples : (a b : List Value) → slice_cmp value_cmp a b ≡ Equal → a ≡ b
exact_tuples [] [] e = refl
exact_tuples [] (y ∷ ys) e = cc
exact_tuples (x ∷ xs) [] e = cc
exact_tuples (x ∷ xs) (y ∷ ys) e =
    let both = both_equal (value_cmp x y) (slice_cmp value_cmp xs ys) e in
    let first : x ≡ y = exact_values x y both.0 in
    let rest : xs ≡ ys = exact_tuples xs ys both.1 in
    cc
