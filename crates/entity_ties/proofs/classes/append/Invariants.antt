use Rattle.std.proofs.Common.{◌≡◌, ◌++◌, take}
use Rattle.entity_ties.proofs.classes.append.Given as goal

abbrev pub invariant-loop-number : goal.invariant-loop-number
invariant-loop-number l = l.numbers ≡ l.fn.numbers ++ take l.number-index l.more
