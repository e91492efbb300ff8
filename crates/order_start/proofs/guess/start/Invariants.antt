use Rattle.std.proofs.Common.{◌≡◌, length}
use Rattle.order_start.proofs.guess.start.Given as goal

abbrev pub invariant-loop-rel : goal.invariant-loop-rel
invariant-loop-rel l = length l.guess ≡ length l.initial.guess
