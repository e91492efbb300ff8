use Rattle.std.proofs.Common.{◌<◌, ◌-◌, ◌^◌, ◌∙◌, min, length, List, sym, ap, arith}
use Rattle.currency_base.specs.declared.ids.RowId.{RowId}
use Rattle.spec_limits.proofs.Capped.{left_after_capped, saturated}
use Rattle.spec_limits.proofs.Leaving.{goes_on, stops, ends}
use Rattle.spec_limits.proofs.instances.left_by_rule.Goals as goal

pub returns-in_default : goal.returns-in_default
returns-in_default c =
    let rows = c.rows-item.result in
    let few : c.loop-rows.left < 2 ^ 32 = omega arith in
    let power = c.saturating_pow-choices.ensures ∙ ap (λ n. min (n ^ c.args.vars) (2 ^ 64 - 1)) c.len.ensures in
    let here = left_after_capped c.loop-rows.left (length rows ^ c.args.vars) c.saturating_pow-choices.result
    c.left_after.result few
    (saturated (length rows ^ c.args.vars) c.saturating_pow-choices.result power) c.left_after.ensures in
    sym (stops (λ (rows : List RowId). length rows ^ c.args.vars) c.args.entities.now c.loop-rows.rows-index rows
    c.args.left c.loop-rows.left
    c.loop-rows-test.true c.rows-item.is c.loop-rows.invariant (sym here ∙ c.in_default.is))

pub loop-rows-preserved : goal.loop-rows-preserved
loop-rows-preserved c =
    let rows = c.rows-item.result in
    let few : c.loop-rows.left < 2 ^ 32 = omega arith in
    let power = c.saturating_pow-choices.ensures ∙ ap (λ n. min (n ^ c.args.vars) (2 ^ 64 - 1)) c.len.ensures in
    let here = left_after_capped c.loop-rows.left (length rows ^ c.args.vars) c.saturating_pow-choices.result
    c.left_after.result few
    (saturated (length rows ^ c.args.vars) c.saturating_pow-choices.result power) c.left_after.ensures in
    goes_on (λ (rows : List RowId). length rows ^ c.args.vars) c.args.entities.now c.loop-rows.rows-index rows
    c.args.left c.loop-rows.left
    c.in-Some.rest c.loop-rows-test.true c.rows-item.is c.loop-rows.invariant (sym here ∙ c.in-Some.is)

pub returns : goal.returns
returns c =
    sym (ends (λ (rows : List RowId). length rows ^ c.args.vars) c.args.entities.now c.loop-rows.rows-index
    c.args.left c.loop-rows.left
    c.loop-rows-test.false c.loop-rows.invariant)
