use Rattle.std.proofs.Common.{◌≡◌, [], replicate}
use Rattle.entity_rows.proofs.rows.no_rows.Given as goal

abbrev pub invariant-loop : goal.invariant-loop
invariant-loop l = l.lists.items ≡ replicate l.counter []
