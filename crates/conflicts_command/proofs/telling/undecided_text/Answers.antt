use Rattle.std.proofs.Common.{◌∙◌}
use Rattle.spec_items.specs.Items.{items_of}
use Rattle.conflicts_command.proofs.OwnItems.{all_own}
use Rattle.conflicts_command.proofs.telling.undecided_text.Goals as goal

pub spent_text-requires-clause-items : goal.spent_text-requires-clause-items
spent_text-requires-clause-items c =
    all_own (items_of c.args.part.now) c.as_slice.result.now (c.as_slice.ensures ∙ c.in_ok-list.ensures)
