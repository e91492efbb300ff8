use Rattle.std.proofs.Common.{◌≡◌, ◌<◌, ℕ, length, slice_get}
use Rattle.order_search.proofs.telling.copy_of.Given as goal

abbrev pub invariant-loop-var : goal.invariant-loop-var
invariant-loop-var l = record {
  many : length l.copy ≡ length l.truths;
  same : (var : ℕ) → var < l.var → slice_get l.copy var ≡ slice_get l.truths var;
}
