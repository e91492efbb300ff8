use Rattle.std.proofs.Common.{◌≡◌, ◌++◌, drop, map}
use Rattle.minimal_items.specs.Explanations.{needed_items}
use Rattle.part_widens.specs.Widened.{rules_among}
use Rattle.near_items.proofs.base.marks_of.Given as goal

abbrev pub invariant-loop-item : goal.invariant-loop-item
invariant-loop-item l =
    l.marks.items ++ map (rules_among (needed_items l.needed)) (drop l.item-index l.items)
    ≡ map (rules_among (needed_items l.needed)) l.items
