use Rattle.std.proofs.Common.{◌≡◌, ◌<◌, ◌++◌, length, map, rules, arith}
use Rattle.std.specs.List.{range_with_len}
use Rattle.order_literals.specs.Layout.{block_of}
use Rattle.order_literals.proofs.Placed.{kinds_more}
use Rattle.order_literals.proofs.blocks.push_kind.Goals as goal

pub loop-rel-preserved : goal.loop-rel-preserved
loop-rel-preserved c =
    let within : c.loop-rel.rel < length c.args.tables.now = omega arith in
    let put : c.push_relation.new.blocks.items ≡ c.loop-rel.blocks.items
    ++ map (λ attr. block_of c.args.kind (record { 0 = c.loop-rel.rel }) (record { 0 = attr }))
    (range_with_len 0 c.attrs.result) = search rules in
    kinds_more (block_of c.args.kind) c.args.tables.now c.loop-rel.rel c.index-tables-rel.result _ _ _ within
    c.index-tables-rel.is
    c.loop-rel.invariant (rw c.attrs.ensures at put)
