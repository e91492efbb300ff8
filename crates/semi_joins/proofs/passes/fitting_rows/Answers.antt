use Rattle.std.proofs.Common.{not, subst, sym}
use Rattle.semi_joins.specs.Kept.{CanFit}
use Rattle.semi_joins.proofs.Marking.{below_all, below_next}
use Rattle.semi_joins.proofs.Telling.{marked_not}
use Rattle.semi_joins.proofs.passes.fitting_rows.Goals as goal

pub loop-row-preserved : goal.loop-row-preserved
loop-row-preserved c =
    let tests = c.args.conditions.now.tests in
    let terms = c.args.terms.now in
    below_next (λ place row. CanFit tests terms row) c.args.rows.now c.loop-row.row-index c.loop-row.kept c.push.new.self
    (not c.is_unfit.result) c.row-item.result c.loop-row-test.true c.row-item.is c.in_ok-push.ensures
    (λ can. marked_not c.is_unfit.result (CanFit tests terms c.as_slice.result.now) c.is_unfit.ensures
    (subst (CanFit tests terms) (sym c.as_slice.ensures) can)) c.loop-row.invariant

pub returns : goal.returns
returns c =
    below_all (λ place row. CanFit c.args.conditions.now.tests c.args.terms.now row) c.args.rows.now c.loop-row.row-index
    c.loop-row.kept c.loop-row-test.false c.loop-row.invariant
