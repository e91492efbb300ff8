use Rattle.std.proofs.Common.{◌≡◌, ◌<◌, ℕ, Some, slice_get}
use Rattle.forced_closure.specs.declared.forced.Forced.{Forced}
use Rattle.forced_closure.proofs.table.has_loop.Given as goal

abbrev pub invariant-loop-forced : goal.invariant-loop-forced
invariant-loop-forced l = (place : ℕ) (f : Forced) → place < l.forced-index → slice_get l.pairs place ≡ Some f
    → f.pair.earlier ≡ f.pair.later → ⊥
