use Rattle.std.proofs.Common.{◌≡◌, map}
use Rattle.std.specs.List.{range_with_len}
use Rattle.order_literals.specs.Layout.{attrs_before}
use Rattle.order_literals.proofs.blocks.firsts_of.Given as goal

abbrev pub invariant-loop-rel : goal.invariant-loop-rel
invariant-loop-rel l = record {
  items : l.firsts.items ≡ map (attrs_before l.tables) (range_with_len 0 l.rel);
  total : l.total ≡ attrs_before l.tables l.rel;
}
