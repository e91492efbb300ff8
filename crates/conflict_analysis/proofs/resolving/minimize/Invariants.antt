use Rattle.std.proofs.Common.{◌≡◌, ◌<◌, All, length}
use Rattle.conflict_analysis.specs.Steps.{Minimizes}
use Rattle.conflict_analysis.proofs.resolving.minimize.Given as goal

abbrev pub invariant-loop-place : goal.invariant-loop-place
invariant-loop-place l = record {
  long : length l.found.seen ≡ length l.initial.found.seen;
  kept : All (λ place. place < length l.trail.entries) l.found.kept;
  minimizes : Minimizes l.arena l.trail.entries l.bounds.base l.bounds.level l.initial.found l.found;
}

abbrev pub decreases-loop-place : goal.decreases-loop-place
decreases-loop-place l = length l.found.kept
