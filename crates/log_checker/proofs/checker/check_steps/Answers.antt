use Rattle.refutation_log.specs.Steps.{step_of}
use Rattle.log_checker.proofs.Judged.{judged_more}
use Rattle.log_checker.proofs.checker.check_steps.Goals as goal

pub loop-place-preserved : goal.loop-place-preserved
loop-place-preserved c =
    judged_more c.args.axioms.now.spec c.args.axioms.now.posed c.args.statements.now c.args.steps.now
    c.loop-place.place (step_of c.get.result) c.lits.result.now
    c.loop-place.replay c.judge.new.replay c.loop-place.checked c.add.new.self c.get.ensures c.lits.ensures c.loop-place.invariant
    c.in-Ok.ensures.accepted c.in-Ok.ensures.added c.add.ensures
