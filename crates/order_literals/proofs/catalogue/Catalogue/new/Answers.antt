use Rattle.std.proofs.Common.{◌≡◌}
use Rattle.order_literals.specs.Numbers.{Numbers}
use Rattle.order_literals.specs.Statements.{blocks_of}
use Rattle.order_literals.proofs.AllBlocks.{blocks_known}
use Rattle.order_literals.proofs.catalogue.Catalogue.new.Goals as goal

pub all_starts-requires-clause-few : goal.all_starts-requires-clause-few
all_starts-requires-clause-few c =
    let n : Numbers = record { tables = c.args.tables.items; answers = c.args.answers } in
    let blocks : c.in-Ok-all_blocks.blocks.items ≡ blocks_of n = rw c.deref-2.ensures.value at
    (c.in-Ok-all_blocks.ensures c.args.answers) in
    rw (c.deref-3.ensures.value, c.deref-4.ensures.value, blocks) c.requires.few

pub all_starts-requires-clause-blocks : goal.all_starts-requires-clause-blocks
all_starts-requires-clause-blocks c =
    let n : Numbers = record { tables = c.args.tables.items; answers = c.args.answers } in
    let blocks : c.in-Ok-all_blocks.blocks.items ≡ blocks_of n = rw c.deref-2.ensures.value at
    (c.in-Ok-all_blocks.ensures c.args.answers) in
    rw (c.deref-3.ensures.value, c.deref-4.ensures.value, blocks) (blocks_known n)

pub invariant_of-result : goal.invariant_of-result
invariant_of-result c =
    let n : Numbers = record { tables = c.args.tables.items; answers = c.args.answers } in
    let blocks : c.in-Ok-all_blocks.blocks.items ≡ blocks_of n = rw c.deref-2.ensures.value at
    (c.in-Ok-all_blocks.ensures c.args.answers) in
    record {
      firsts_are = rw c.deref.ensures.value at c.in-Ok.ensures;
      blocks_are = blocks;
      starts_are = rw (c.deref-3.ensures.value, c.deref-4.ensures.value, blocks) at c.in-Ok-all_starts.ensures;
      few = c.requires.few;
    }
