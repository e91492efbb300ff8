use Rattle.std.proofs.Common.{◌≡◌, ℕ, ◌+◌, ◌<◌, ◌≤◌, List, Some, slice_get}
use Rattle.currency_base.specs.declared.value.Value.{Value}
use Rattle.query_model.specs.Answers.{IsBelow}
use Rattle.log_axioms.proofs.answers.are_ascending.Given as goal

abbrev pub invariant-loop-place : goal.invariant-loop-place
invariant-loop-place l =
    (1 ≤ l.place)
    × ((k : ℕ) (a b : List Value) → k + 1 < l.place → slice_get l.tuples k ≡ Some a → slice_get l.tuples (k + 1) ≡
    Some b → IsBelow a b)
