use Rattle.std.proofs.Common.{◌≡◌, ◌++◌}
use Rattle.last_rows.specs.Hints.{three_hints}
use Rattle.last_rows.proofs.derivation.put_threes.Given as goal

abbrev pub invariant-loop-row : goal.invariant-loop-row
invariant-loop-row l = l.hints.items ≡ l.initial.hints.items ++ three_hints l.list l.own l.later l.row
