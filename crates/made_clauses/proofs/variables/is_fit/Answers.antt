use Rattle.std.proofs.Common.{subst, arith}
use Rattle.made_clauses.proofs.Ascents.{Ascend, ascend_on, ascending_fit}
use Rattle.made_clauses.proofs.variables.is_fit.Goals as goal

pub loop-place-preserved : goal.loop-place-preserved
loop-place-preserved c =
    let so = c.if-not-goes_on.false in
    ascend_on _ _ _ c.loop-place.invariant (omega (arith, c.loop-place-test.true)) (c.goes_on.ensures.within so)
    (c.goes_on.ensures.rises so)

pub returns : goal.returns
returns c said = ascending_fit _ _ (subst (λ n. Ascend c.args.lits.now n c.args.vars) (omega arith) c.loop-place.invariant)
