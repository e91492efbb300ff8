use Rattle.std.proofs.Common.{◌≡◌, ◌-◌, length}
use Rattle.conflict_analysis.specs.Steps.{ClosesTo}
use Rattle.conflict_analysis.proofs.resolving.close_all.Given as goal

abbrev pub invariant-loop-done : goal.invariant-loop-done
invariant-loop-done l = record {
  long : length l.found.seen ≡ length l.initial.found.seen;
  closes : ClosesTo l.arena l.trail.entries l.bounds.base l.bounds.level l.at l.done l.initial.found l.found;
}

abbrev pub decreases-loop-done : goal.decreases-loop-done
decreases-loop-done l = length l.trail.entries - l.done
