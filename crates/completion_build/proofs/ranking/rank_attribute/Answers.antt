use Rattle.std.proofs.Common.{arith}
use Rattle.completion_build.proofs.Ends.{attribute_all}
use Rattle.completion_build.proofs.ranking.rank_attribute.Goals as goal

pub returns : goal.returns
returns c =
    let s = c.args.source.now in
    attribute_all s.relations s.numbers s.truths c.args.rel.0 c.args.attr.0 c.loop-ent.ent c.relation.result.now
    c.loop-ent.draft.completion c.loop-ent.draft.cycles
    c.relation.ensures.value (omega arith) c.loop-ent.invariant
