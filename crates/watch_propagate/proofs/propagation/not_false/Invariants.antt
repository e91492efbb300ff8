use Rattle.std.proofs.Common.{◌≡◌, ◌<◌, ◌≤◌, ℕ, Contains, Some, slice_get}
use Rattle.currency_base.specs.Literals.{negation}
use Rattle.currency_base.specs.declared.lit.Lit.{Lit}
use Rattle.search_trail.specs.Trails.{lits_of}
use Rattle.watch_propagate.proofs.propagation.not_false.Given as goal

abbrev pub invariant-loop-place : goal.invariant-loop-place
invariant-loop-place l = (k : ℕ) (x : Lit) → 2 ≤ k → k < l.place → slice_get l.lits k ≡ Some x
    → Contains (lits_of l.trail) (negation x)
