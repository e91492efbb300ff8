use Rattle.std.proofs.Common.{◌≡◌, length}
use Rattle.order_start.proofs.guess.guess_relation.Given as goal

abbrev pub invariant-loop-attr : goal.invariant-loop-attr
invariant-loop-attr l = length l.guess ≡ length l.initial.guess
