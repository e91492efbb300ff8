use Rattle.std.proofs.Common.{◌≡◌, drop}
use Rattle.item_write.specs.Pieces.{items_pieces}
use Rattle.minimal_items.specs.Explanations.{needed_items}
use Rattle.text_write.specs.Spacing.{writes_all}
use Rattle.conflicts_command.proofs.writing.write_needed.Given as goal

abbrev pub invariant-loop-one : goal.invariant-loop-one
invariant-loop-one l =
    writes_all l.into (items_pieces l.part (needed_items (drop l.one-index l.needed)))
    ≡ writes_all l.initial.into (items_pieces l.part (needed_items l.needed))
