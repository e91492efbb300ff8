use Rattle.std.proofs.Common.{◌≡◌, drop}
use Rattle.golden_command.specs.Asked.{column_in}
use Rattle.golden_command.proofs.asked.column_of.Given as goal

abbrev pub invariant-loop-place : goal.invariant-loop-place
invariant-loop-place l =
    column_in (drop l.place l.tree.statements) l.relation ≡ column_in l.tree.statements l.relation
