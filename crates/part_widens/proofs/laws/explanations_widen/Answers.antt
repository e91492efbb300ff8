use Rattle.part_widens.proofs.WidenedExplanations.{widened}
use Rattle.part_widens.proofs.laws.explanations_widen.Goals as goal

pub returns : goal.returns
returns c =
    widened c.items_are_parted.ensures c.narrows_exist.ensures c.parts_narrow.ensures c.parts_keep_facts.ensures.pairs
    c.fewer_items.ensures c.facts_widen.ensures
