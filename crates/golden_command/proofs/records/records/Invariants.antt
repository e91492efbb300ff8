use Rattle.std.proofs.Common.{◌≡◌, ◌++◌, drop}
use Rattle.golden_command.specs.Text.{records_of}
use Rattle.golden_command.proofs.records.records.Given as goal

abbrev pub invariant-loop-ent : goal.invariant-loop-ent
invariant-loop-ent l =
    l.list ++ records_of l.relation (drop l.ent l.relation.entities) (drop l.ent l.table)
    ≡ l.initial.list ++ records_of l.relation l.relation.entities l.table
