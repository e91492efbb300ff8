use Rattle.part_items.proofs.PartedItems.{items_parted}
use Rattle.part_items.proofs.laws.items_are_parted.Goals as goal

pub returns : goal.returns
returns c = items_parted
