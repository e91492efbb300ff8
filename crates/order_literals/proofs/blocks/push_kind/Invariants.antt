use Rattle.std.proofs.Common.{◌≡◌, ◌++◌, take}
use Rattle.order_literals.specs.Layout.{block_of}
use Rattle.order_literals.specs.Statements.{blocks_from}
use Rattle.order_literals.proofs.blocks.push_kind.Given as goal

abbrev pub invariant-loop-rel : goal.invariant-loop-rel
invariant-loop-rel l = l.blocks.items ≡ l.initial.blocks.items ++ blocks_from (block_of l.kind) 0 (take l.rel l.tables)
