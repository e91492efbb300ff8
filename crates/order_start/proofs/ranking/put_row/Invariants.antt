use Rattle.std.proofs.Common.{◌≡◌, length}
use Rattle.order_start.proofs.ranking.put_row.Given as goal

abbrev pub invariant-loop-other : goal.invariant-loop-other
invariant-loop-other l = length l.guess ≡ length l.initial.guess
