use Rattle.std.proofs.Common.{◌≡◌, ◌++◌}
use Rattle.last_rows.specs.Hints.{known_hints}
use Rattle.last_rows.proofs.derivation.put_known.Given as goal

abbrev pub invariant-loop-more : goal.invariant-loop-more
invariant-loop-more l = l.hints.items ≡ l.initial.hints.items ++ known_hints l.list l.own l.more
