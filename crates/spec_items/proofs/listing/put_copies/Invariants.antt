use Rattle.std.proofs.Common.{◌≡◌, ◌++◌, drop}
use Rattle.spec_items.specs.Items.{copy_items}
use Rattle.spec_items.proofs.listing.put_copies.Given as goal

abbrev pub invariant-loop-place : goal.invariant-loop-place
invariant-loop-place l =
    l.items ++ copy_items l.relations l.place (drop l.place l.copies) ≡ l.fn.items ++ copy_items l.relations 0 l.copies
