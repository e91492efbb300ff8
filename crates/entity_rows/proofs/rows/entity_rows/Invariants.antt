use Rattle.std.proofs.Common.{length, take}
use Rattle.entity_rows.specs.Members.{AreEntityRows}
use Rattle.entity_rows.proofs.rows.entity_rows.Given as goal

abbrev pub invariant-loop-at : goal.invariant-loop-at
invariant-loop-at l = AreEntityRows (take l.at l.relation.rows) (length l.relation.entities) l.lists.items
