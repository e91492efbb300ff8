use Rattle.std.proofs.Common.{◌≡◌, drop}
use Rattle.text_write.specs.Spacing.{writes_all}
use Rattle.item_write.specs.Pieces.{items_pieces}
use Rattle.item_write.proofs.item.write_items.Given as goal

abbrev pub invariant-loop-item : goal.invariant-loop-item
invariant-loop-item l =
    writes_all l.into (items_pieces l.spec (drop l.item-index l.items))
    ≡ writes_all l.initial.into (items_pieces l.spec l.items)
