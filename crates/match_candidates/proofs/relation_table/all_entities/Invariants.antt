use Rattle.match_candidates.proofs.Listed.{AreBelow}
use Rattle.match_candidates.proofs.relation_table.all_entities.Given as goal

abbrev pub invariant-loop-ent : goal.invariant-loop-ent
invariant-loop-ent l = AreBelow l.ent l.all.items
