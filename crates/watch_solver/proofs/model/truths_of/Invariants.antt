use Rattle.std.proofs.Common.{◌≡◌, ◌<◌, ℕ, Bool, None, Some, false, length, slice_get, slice_index_or}
use Rattle.watch_solver.proofs.model.truths_of.Given as goal

abbrev pub invariant-loop-var : goal.invariant-loop-var
invariant-loop-var l = record {
  as_many : length l.truths ≡ length l.values.given;
  given : (var : ℕ) (value : Bool) → var < l.var → slice_get l.values.given var ≡ Some (Some value)
      → slice_index_or l.truths var false ≡ value;
  free : (var : ℕ) → var < l.var → slice_get l.values.given var ≡ Some None → slice_index_or l.truths var false ≡ false;
}
