use Rattle.std.proofs.Common.{◌≡◌, ◌++◌}
use Rattle.spec_items.specs.Items.{mapped_items}
use Rattle.spec_items.proofs.listing.put_mapped.Given as goal

abbrev pub invariant-loop-row : goal.invariant-loop-row
invariant-loop-row l = l.items ≡ l.fn.items ++ mapped_items l.copy.0 l.map l.row
