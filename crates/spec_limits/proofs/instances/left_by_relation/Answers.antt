use Rattle.std.proofs.Common.{◌<◌, ◌*◌, ◌^◌, ◌∙◌, length, List, sym, ap, arith}
use Rattle.currency_base.specs.declared.ids.RowId.{RowId}
use Rattle.spec_limits.specs.Instances.{two_for_each_three}
use Rattle.spec_limits.specs.Left.{left_of}
use Rattle.spec_limits.proofs.Capped.{left_after_capped, multiple}
use Rattle.spec_limits.proofs.Leaving.{goes_on, stops, ends}
use Rattle.spec_limits.proofs.instances.left_by_relation.Goals as goal

pub returns-in_default : goal.returns-in_default
returns-in_default c =
    let rows = c.rows-item.result in
    let few : c.loop-rows.left < 2 ^ 32 = omega arith in
    let more = c.args.attrs * two_for_each_three c.len.result in
    let here = left_after_capped c.loop-rows.left more c.saturating_mul-of_entity.result c.left_after.result few
    (multiple (two_for_each_three c.len.result) c.two_for_each_three.result c.args.attrs c.saturating_mul-of_entity.result
    c.two_for_each_three.ensures c.saturating_mul-of_entity.ensures) c.left_after.ensures
    ∙ ap (λ n. left_of c.loop-rows.left (c.args.attrs * two_for_each_three n)) c.len.ensures in
    sym (stops (λ (rows : List RowId). c.args.attrs * two_for_each_three (length rows)) c.args.entities.now
    c.loop-rows.rows-index rows c.args.left c.loop-rows.left
    c.loop-rows-test.true c.rows-item.is c.loop-rows.invariant (sym here ∙ c.in_default.is))

pub loop-rows-preserved : goal.loop-rows-preserved
loop-rows-preserved c =
    let rows = c.rows-item.result in
    let few : c.loop-rows.left < 2 ^ 32 = omega arith in
    let more = c.args.attrs * two_for_each_three c.len.result in
    let here = left_after_capped c.loop-rows.left more c.saturating_mul-of_entity.result c.left_after.result few
    (multiple (two_for_each_three c.len.result) c.two_for_each_three.result c.args.attrs c.saturating_mul-of_entity.result
    c.two_for_each_three.ensures c.saturating_mul-of_entity.ensures) c.left_after.ensures
    ∙ ap (λ n. left_of c.loop-rows.left (c.args.attrs * two_for_each_three n)) c.len.ensures in
    goes_on (λ (rows : List RowId). c.args.attrs * two_for_each_three (length rows)) c.args.entities.now
    c.loop-rows.rows-index rows c.args.left c.loop-rows.left
    c.in-Some.rest c.loop-rows-test.true c.rows-item.is c.loop-rows.invariant (sym here ∙ c.in-Some.is)

pub returns : goal.returns
returns c =
    sym (ends (λ (rows : List RowId). c.args.attrs * two_for_each_three (length rows)) c.args.entities.now
    c.loop-rows.rows-index c.args.left c.loop-rows.left
    c.loop-rows-test.false c.loop-rows.invariant)
