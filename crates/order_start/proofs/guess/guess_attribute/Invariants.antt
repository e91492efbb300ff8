use Rattle.std.proofs.Common.{◌≡◌, length}
use Rattle.order_start.proofs.guess.guess_attribute.Given as goal

abbrev pub invariant-loop-ent : goal.invariant-loop-ent
invariant-loop-ent l = length l.guess ≡ length l.initial.guess
