use Rattle.match_candidates.proofs.Listed.{below_more}
use Rattle.std.proofs.Common.{rules}
use Rattle.match_candidates.proofs.relation_table.all_entities.Goals as goal

pub loop-ent-preserved : goal.loop-ent-preserved
loop-ent-preserved c = below_more c.loop-ent.ent c.loop-ent.all.items c.push.new.self.items (record {
  0 =
      c.loop-ent.ent;
}) (search rules) c.in_ok-push.ensures.items c.loop-ent.invariant
