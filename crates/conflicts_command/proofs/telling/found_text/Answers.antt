use Rattle.std.proofs.Common.{List, All, Contains, subst, sym}
use Rattle.part_conflicts.specs.declared.found.Conflict.{Conflict}
use Rattle.spec_items.specs.Items.{items_of}
use Rattle.spec_items.specs.declared.item.Item.{Item}
use Rattle.conflicts_command.specs.Listed.{IsListed, IsWritableFound}
use Rattle.conflicts_command.proofs.telling.found_text.Goals as goal

pub all_text-requires : goal.all_text-requires
all_text-requires c =
    subst (λ (list : List Conflict). All IsListed list) (sym c.as_slice.ensures)
    (subst IsWritableFound c.in-All.is c.requires)

pub spent_text-requires-clause-items : goal.spent_text-requires-clause-items
spent_text-requires-clause-items c =
    let told = subst IsWritableFound c.in-Open.is c.requires in
    subst (λ (items : List Item). All (Contains (items_of c.in-Open.part)) items)
    (sym c.as_slice-in-Open.ensures) told.0
