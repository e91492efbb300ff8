use Rattle.std.proofs.Common.{sym}
use Rattle.spec_names.proofs.Places.{none_before}
use Rattle.spec_names.proofs.named.index_of.Goals as goal

pub add_copy-requires : goal.add_copy-requires
add_copy-requires g c =
    rw (c.name.ensures, c.loop-item.invariant) (none_before g.T.Named.named c.args.items.now c.loop-item.item-index
    c.item-item.result c.requires c.loop-item-test.true (sym c.item-item.is))
