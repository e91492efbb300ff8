use Rattle.std.proofs.Common.{arith, ◌+◌, sym}
use Rattle.std.proofs.lemmas.Bool.{lt-ltb}
use Rattle.spec_limits.specs.Limits.{order_variables}
use Rattle.spec_limits.proofs.Bounds.{none_yet, product, relation_more, some_of_all}
use Rattle.spec_limits.proofs.variables.has_too_many.Goals as goal

pub loop-relation-init : goal.loop-relation-init
loop-relation-init c = none_yet c.args.relations.now

pub returns-then-variables-left : goal.returns-then-variables-left
returns-then-variables-left c =
    let relations = c.args.relations.now in
    let i = c.loop-relation.relation-index in
    let r = c.relation-item.result in
    let here = product r c.in_ok-pairs.pairs c.len-in-loop-relation.result c.as_slice-rows.result.now
    c.as_slice-rows.ensures c.in_ok-pairs.ensures c.len-in-loop-relation.ensures in
    let more = relation_more relations i r c.loop-relation-test.true c.relation-item.is in
    let most = some_of_all relations (i + 1) in
    sym (lt-ltb 4000000 (order_variables relations)
    (omega (arith, here, more, most, c.loop-relation.invariant, c.if-variables-left.true, c.saturating_mul-variables.ensures)))

pub loop-relation-preserved : goal.loop-relation-preserved
loop-relation-preserved c =
    let relations = c.args.relations.now in
    let i = c.loop-relation.relation-index in
    let r = c.relation-item.result in
    let here = product r c.in_ok-pairs.pairs c.len-in-loop-relation.result c.as_slice-rows.result.now
    c.as_slice-rows.ensures c.in_ok-pairs.ensures c.len-in-loop-relation.ensures in
    let more = relation_more relations i r c.loop-relation-test.true c.relation-item.is in
    omega (arith, here, more, c.loop-relation.invariant, c.if-variables-left.false, c.saturating_mul-variables.ensures)
