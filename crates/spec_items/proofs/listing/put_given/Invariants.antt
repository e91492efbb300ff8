use Rattle.std.proofs.Common.{◌≡◌, ◌++◌, drop}
use Rattle.spec_items.specs.Items.{given_items}
use Rattle.spec_items.proofs.listing.put_given.Given as goal

abbrev pub invariant-loop-rel : goal.invariant-loop-rel
invariant-loop-rel l = l.items ++ given_items l.rel (drop l.rel l.relations) ≡ l.fn.items ++ given_items 0 l.relations
