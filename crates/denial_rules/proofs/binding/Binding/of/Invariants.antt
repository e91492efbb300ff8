use Rattle.std.proofs.Common.{◌≡◌, take}
use Rattle.denial_rules.proofs.binding.Binding.of.Given as goal

abbrev pub invariant-loop-row : goal.invariant-loop-row
invariant-loop-row l = l.binding ≡ take l.row-index l.rows
