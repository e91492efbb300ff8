use Rattle.std.proofs.Common.{◌≡◌, ◌<◌, ◌≤◌, ℕ, length}
use Rattle.count_tree.specs.Nodes.{IsRight}
use Rattle.count_tree.proofs.tournament.mend_all.Given as goal

abbrev pub invariant-loop-place : goal.invariant-loop-place
invariant-loop-place l = record {
  as_long : length l.best ≡ length l.initial.best;
  within : l.place ≤ length l.best;
  after : (place : ℕ) → l.place ≤ place → place < length l.best → IsRight l.counts l.present l.best place;
}

abbrev pub decreases-loop-place : goal.decreases-loop-place
decreases-loop-place l = l.place
