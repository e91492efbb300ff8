use Rattle.std.proofs.Common.{◌≡◌, ◌<◌, ◌≤◌, ℕ, None, Some, slice_get}
use Rattle.search_trail.proofs.values.first_free_from.Given as goal

abbrev pub invariant-loop-place : goal.invariant-loop-place
invariant-loop-place l = (i var : ℕ) → l.start ≤ i → i < l.place → slice_get l.scope i ≡ Some var
    → slice_get l.given var ≡ Some None → ⊥
