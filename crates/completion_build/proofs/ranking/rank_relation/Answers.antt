use Rattle.std.proofs.Common.{arith}
use Rattle.completion_build.proofs.Ends.{relation_all}
use Rattle.completion_build.proofs.ranking.rank_relation.Goals as goal

pub returns : goal.returns
returns c =
    let s = c.args.source.now in
    relation_all s.relations s.numbers s.truths c.args.rel.0 c.loop-attr.attr c.relation.result.now
    c.loop-attr.draft.completion c.loop-attr.draft.cycles
    c.relation.ensures.value (omega arith) c.loop-attr.invariant
