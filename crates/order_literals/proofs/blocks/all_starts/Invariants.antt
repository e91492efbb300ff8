use Rattle.std.proofs.Common.{◌≡◌, map}
use Rattle.std.specs.List.{range_with_len}
use Rattle.order_literals.specs.Layout.{statements_before}
use Rattle.order_literals.proofs.blocks.all_starts.Given as goal

abbrev pub invariant-loop-place : goal.invariant-loop-place
invariant-loop-place l = record {
  items : l.starts.items ≡ map (statements_before (record { tables = l.tables; answers = l.answers }) l.blocks)
      (range_with_len 0 l.place);
  total : l.total ≡ statements_before (record { tables = l.tables; answers = l.answers }) l.blocks l.place;
}
