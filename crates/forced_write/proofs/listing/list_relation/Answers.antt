use Rattle.std.proofs.Common.{arith}
use Rattle.forced_write.proofs.Growing.{rel_all}
use Rattle.forced_write.proofs.listing.list_relation.Goals as goal

pub returns : goal.returns
returns c =
    rel_all c.args.spec.now c.args.rel.0 c.loop-attr.attr c.relation_at-relation.result.now c.loop-attr.pairs
    c.requires.facts c.relation_at-relation.ensures.value
    (omega arith) c.loop-attr.invariant
