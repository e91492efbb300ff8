use Rattle.std.proofs.Common.{◌≡◌, ◌<◌, ◌≤◌, ℕ, length}
use Rattle.conflict_analysis.specs.Steps.{AreMet, IsSeen}
use Rattle.conflict_analysis.proofs.resolving.walk.Given as goal

abbrev pub invariant-loop-at : goal.invariant-loop-at
invariant-loop-at l = record {
  long : length l.found.seen ≡ length l.initial.found.seen;
  still : (q : ℕ) → IsSeen l.initial.found.seen q → IsSeen l.found.seen q;
  below : l.at ≤ length l.trail.entries;
  low : l.found.low < l.at;
  met : AreMet l.arena l.trail.entries l.bounds.base l.bounds.level l.at l.found;
}

abbrev pub decreases-loop-at : goal.decreases-loop-at
decreases-loop-at l = l.at
