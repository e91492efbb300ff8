use Rattle.std.proofs.Common.{◌<◌, ◌+◌, ◌++◌, ◌∙◌, length, refl, ap, arith}
use Rattle.order_literals.specs.declared.block.Block.{Block}
use Rattle.variable_parts.specs.Told.{block_keys}
use Rattle.variable_parts.proofs.BlockKeys.{attrs_all, attrs_end, attrs_left, attrs_next, block_in, of_attr, rest_more, rest_none}
use Rattle.variable_parts.proofs.SourceRows.{relation_in}
use Rattle.variable_parts.proofs.keys.push_relation.Goals as goal

pub push_block-requires : goal.push_block-requires
push_block-requires c =
    let d = c.args.source.now in
    let has = relation_in d c.args.rel c.requires in
    rw c.block.ensures
    (block_in d c.args.kind c.args.rel (record { 0 = c.loop-attr.attr }) has.relation has.is_relation
    (omega (arith, c.loop-attr-test.true, c.attrs-attr-end.ensures.value has.relation has.is_relation)))

pub loop-attr-init : goal.loop-attr-init
loop-attr-init c = λ r at. refl

pub loop-attr-preserved : goal.loop-attr-preserved
loop-attr-preserved c =
    let d = c.args.source.now in
    let kind = c.args.kind in
    let rel = c.args.rel in
    let attr = c.loop-attr.attr in
    let keys = c.loop-attr.keys.items in
    λ r at.
    let count = length r.attrs in
    let below : attr < count = omega (arith, c.loop-attr-test.true, c.attrs-attr-end.ensures.value r at) in
    rest_more keys (block_keys d (of_attr d kind rel attr)) (attrs_left d kind rel count (attr + 1))
    (attrs_left d kind rel count attr)
    (c.args.keys.now.items ++ attrs_left d kind rel count 0) c.push_block.new.keys.items (c.loop-attr.invariant r at)
    (attrs_next d kind rel count attr below)
    (c.in_ok-push_block.ensures ∙ ap (λ (b : Block). keys ++ block_keys d b) c.block.ensures)

pub returns : goal.returns
returns c =
    let d = c.args.source.now in
    let kind = c.args.kind in
    let rel = c.args.rel in
    let attr = c.loop-attr.attr in
    λ r at.
    let count = length r.attrs in
    rest_none c.loop-attr.keys.items (attrs_left d kind rel count attr) (c.args.keys.now.items ++ attrs_left d kind rel count 0)
    (c.loop-attr.invariant r at)
    (attrs_end d kind rel count attr (omega (arith, c.loop-attr-test.false, c.attrs-attr-end.ensures.value r at)))
    ∙ ap (λ ks. c.args.keys.now.items ++ ks) (attrs_all d kind rel count)
