use Rattle.std.proofs.Common.{◌≡◌, length}
use Rattle.order_start.proofs.ranking.put_rows.Given as goal

abbrev pub invariant-loop-place : goal.invariant-loop-place
invariant-loop-place l = length l.guess ≡ length l.initial.guess
