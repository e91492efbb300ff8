use Rattle.std.proofs.Common.{◌≡◌, ℕ, ◌<◌, false, List, Some, slice_get}
use Rattle.currency_base.specs.declared.value.Value.{Value}
use Rattle.log_axioms.specs.Matches.{is_tuple}
use Rattle.log_axioms.proofs.answers.scanned.Given as goal

abbrev pub invariant-loop-place : goal.invariant-loop-place
invariant-loop-place l = (i : ℕ) (y : List Value) → i < l.place → slice_get l.tuples i ≡ Some y → is_tuple y l.tuple ≡ false
