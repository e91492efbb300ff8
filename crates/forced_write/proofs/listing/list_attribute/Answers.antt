use Rattle.std.proofs.Common.{arith}
use Rattle.forced_write.proofs.Growing.{attr_all}
use Rattle.forced_write.proofs.listing.list_attribute.Goals as goal

pub returns : goal.returns
returns c =
    attr_all c.args.closure.now.spec c.args.lists.now c.args.rel.0 c.args.attr.0 c.loop-row.row c.loop-row.pairs
    c.requires.column (omega arith)
    c.loop-row.invariant
