use Rattle.std.proofs.Common.{◌≡◌, ◌<◌, length}
use Rattle.count_tree.specs.Nodes.{AreRightBut}
use Rattle.count_tree.proofs.tournament.mend_up.Given as goal

abbrev pub invariant-loop-place : goal.invariant-loop-place
invariant-loop-place l = record {
  as_long : length l.best ≡ length l.initial.best;
  within : l.place < length l.best;
  but : AreRightBut l.counts l.present l.best l.place;
}

abbrev pub decreases-loop-place : goal.decreases-loop-place
decreases-loop-place l = l.place
