use Rattle.std.proofs.Common.{subst}
use Rattle.semi_joins.specs.Kept.{CanFit, Keeps}
use Rattle.semi_joins.proofs.Keeping.{kept_more}
use Rattle.semi_joins.proofs.passes.first_kept.Goals as goal

pub loop-step-preserved : goal.loop-step-preserved
loop-step-preserved c =
    let tests = c.args.conditions.now.tests in
    let rows = c.rows_of-rows.result.now in
    let marks = c.in_ok-fitting_rows.field-0 in
    let so = subst (λ l. Keeps (λ place row. CanFit tests l row) rows marks) c.as_slice.ensures c.in_ok-fitting_rows.ensures in
    kept_more c.args.instance.now.relations c.args.steps.now tests c.loop-step.step-index c.step-item.result
    c.atom-atom.result.now rows c.loop-step.kept.items c.push.new.self.items marks c.loop-step-test.true c.step-item.is
    c.atom-atom.ensures c.rows_of-rows.ensures so c.in_ok-push.ensures.items c.loop-step.invariant
