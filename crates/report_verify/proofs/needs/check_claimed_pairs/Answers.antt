use Rattle.std.proofs.Common.{All}
use Rattle.report_verify.proofs.Refusing.{on_err, on_ok}
use Rattle.report_verify.proofs.Needing.{moved_derived, moved_unmet}
use Rattle.report_verify.proofs.needs.check_claimed_pairs.Goals as goal
use Rattle.report_verify.specs.Judged.{IsUnmet}
use Rattle.report_verify.specs.Supported.{IsDerived, pair_needs}

pub returns-in-Ok-clause-derived : goal.returns-in-Ok-clause-derived
returns-in-Ok-clause-derived c =
    on_ok c.check_pairs.result _ (All (IsDerived c.args.spec.now.relations c.args.log.now)
    (pair_needs c.args.pairs.now)) c.check_pairs.ensures.derived
    (moved_derived c.in-Ok.units.relations c.args.spec.now.relations c.in-Ok.units.log c.args.log.now
    c.as_slice.result.now c.args.pairs.now
    c.in-Ok.ensures.relations c.in-Ok.ensures.log c.as_slice.ensures)

pub returns-in-Ok-clause-unmet : goal.returns-in-Ok-clause-unmet
returns-in-Ok-clause-unmet c =
    on_err c.check_pairs.result _ (IsUnmet c.args.spec.now.relations c.args.log.now (pair_needs c.args.pairs.now))
    c.check_pairs.ensures.unmet
    (λ fault unmet. moved_unmet c.in-Ok.units.relations c.args.spec.now.relations c.in-Ok.units.log c.args.log.now
    c.as_slice.result.now c.args.pairs.now
    fault c.in-Ok.ensures.relations c.in-Ok.ensures.log c.as_slice.ensures unmet)
