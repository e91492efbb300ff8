use Rattle.std.proofs.Common.{◌≡◌, ◌<◌, ℕ, Some, slice_get}
use Rattle.ranked_pairs.proofs.holds.is_met_first.Given as goal

abbrev pub invariant-loop-listed : goal.invariant-loop-listed
invariant-loop-listed l = record {
  no_row : (k : ℕ) → k < l.listed-index → slice_get l.list k ≡ Some l.row → ⊥;
  no_other : (k : ℕ) → k < l.listed-index → slice_get l.list k ≡ Some l.other → ⊥;
}
