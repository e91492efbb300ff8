use Rattle.std.proofs.Common.{◌≡◌, ◌<◌, ℕ, length, slice_index}
use Rattle.horn_closure.specs.Least.{base_of}
use Rattle.horn_closure.proofs.squares.bases_of.Given as goal

abbrev pub invariant-loop-size : goal.invariant-loop-size
invariant-loop-size l = record {
  one_each : length l.bases.items ≡ l.size-index;
  each : (square : ℕ) → square < l.size-index → slice_index l.bases.items square ≡ base_of l.sizes square;
  so_far : l.cells ≡ base_of l.sizes l.size-index;
}
