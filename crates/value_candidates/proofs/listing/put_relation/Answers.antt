use Rattle.std.proofs.Common.{arith}
use Rattle.value_candidates.proofs.Placing.{relation_all}
use Rattle.value_candidates.proofs.listing.put_relation.Goals as goal

pub returns : goal.returns
returns c = λ relations rels is asked so_far.
    relation_all relations rels c.args.relation.now c.args.rel.0 c.loop-ent.ent c.loop-ent.claims is c.requires (omega arith)
    (c.loop-ent.invariant relations rels is asked so_far)
