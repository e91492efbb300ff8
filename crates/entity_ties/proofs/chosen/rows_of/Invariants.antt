use Rattle.std.proofs.Common.{take}
use Rattle.entity_ties.specs.Chosen.{AreRowsOf}
use Rattle.entity_ties.proofs.chosen.rows_of.Given as goal

abbrev pub invariant-loop-ent : goal.invariant-loop-ent
invariant-loop-ent l = AreRowsOf l.group.entities (take l.ent-index l.entities) l.rows.items
