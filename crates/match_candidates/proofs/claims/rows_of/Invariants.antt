use Rattle.std.proofs.Common.{take}
use Rattle.log_axioms.specs.Entities.{AreIndexed}
use Rattle.match_candidates.proofs.claims.rows_of.Given as goal

abbrev pub invariant-loop-relation : goal.invariant-loop-relation
invariant-loop-relation l = AreIndexed (take l.relation-index l.relations) l.rows.items
