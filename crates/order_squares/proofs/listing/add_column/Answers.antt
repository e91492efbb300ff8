use Rattle.std.proofs.Common.{rules}
use Rattle.order_squares.proofs.Columns.{add_more}
use Rattle.order_squares.proofs.listing.add_column.Goals as goal

pub loop-ent-preserved : goal.loop-ent-preserved
loop-ent-preserved c = add_more c.args.squares.now.items c.loop-ent.squares.items c.push.new.self.items c.args.rel.0
    c.args.attr.0 c.loop-ent.ent c.loop-ent.invariant (search rules)
