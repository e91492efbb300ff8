use Rattle.std.proofs.Common.{◌≡◌, ◌<◌, ◌+◌, ℕ, length, slice_index}
use Rattle.horn_closure.specs.Least.{base_of}
use Rattle.order_squares.proofs.bases.bases_of.Given as goal

abbrev pub invariant-loop-size : goal.invariant-loop-size
invariant-loop-size l = record {
  total : l.total ≡ base_of l.sizes l.size-index;
  few : l.total < 4294967296;
  many : length l.bases.items ≡ l.size-index + 1;
  each : (k : ℕ) → k < length l.bases.items → slice_index l.bases.items k ≡ base_of l.sizes k;
}
