use Rattle.std.proofs.Common.{◌≡◌, ◌<◌, ◌≤◌, ℕ, Some, slice_get}
use Rattle.currency_base.specs.declared.lit.Lit.{Lit}
use Rattle.search_trail.specs.Trails.{lits_of}
use Rattle.search_state.specs.Held.{IsKnown}
use Rattle.search_state.proofs.orders.first_open.Given as goal

abbrev pub invariant-loop-place : goal.invariant-loop-place
invariant-loop-place l = (k : ℕ) (x : Lit) → l.start ≤ k → k < l.place → slice_get l.lits k ≡ Some x → IsKnown (lits_of l.trail) x
