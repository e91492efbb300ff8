use Rattle.std.proofs.Common.{◌-◌}
use Rattle.watch_propagate.specs.WatchRule.{IsRewatched, Implies, KeepsWatch}
use Rattle.watch_propagate.proofs.propagation.propagate.Given as goal

abbrev pub invariant-loop-lit : goal.invariant-loop-lit
invariant-loop-lit l = record {
  rewatched : IsRewatched l.initial.arena l.arena;
  implies : Implies l.arena l.initial.trail l.trail;
  rule : KeepsWatch l.arena l.trail;
}

abbrev pub decreases-loop-lit : goal.decreases-loop-lit
decreases-loop-lit l = l.trail.vars - l.trail.gone
