use Rattle.std.proofs.Common.{◌≡◌, ◌++◌, map}
use Rattle.std.specs.List.{range_with_len}
use Rattle.order_literals.specs.Layout.{block_of}
use Rattle.order_literals.proofs.blocks.push_relation.Given as goal

abbrev pub invariant-loop-attr : goal.invariant-loop-attr
invariant-loop-attr l =
    l.blocks.items ≡ l.initial.blocks.items ++ map (λ attr. block_of l.kind l.rel (record { 0 = attr })) (range_with_len 0 l.attr)
