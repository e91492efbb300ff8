use Rattle.std.proofs.Common.{rules}
use Rattle.order_squares.proofs.Columns.{listed_all}
use Rattle.order_squares.proofs.listing.list_squares.Goals as goal

pub returns : goal.returns
returns c = listed_all c.args.relations.now c.loop-rel.starts c.loop-rel.squares.items c.loop-rel.rel (search rules)
    c.loop-rel.invariant
