use Rattle.ucq_answers.proofs.Narrowing.{all_narrowed, more_narrowed}
use Rattle.ucq_answers.proofs.bounds.narrowed.Goals as goal

pub loop-test-init : goal.loop-test-init
loop-test-init c = all_narrowed c.args.index.now.tuples c.args.index.now.place c.args.tests.now c.args.var c.args.values.now
    c.by_value-ents.result.now c.by_value-ents.ensures

pub loop-test-preserved : goal.loop-test-preserved
loop-test-preserved c =
    more_narrowed c.args.index.now.tuples c.args.index.now.place c.args.tests.now c.loop-test.test-index c.test-item.result
    c.args.var c.args.values.now c.loop-test.ents.now c.narrowed_by-ents.result.now c.loop-test-test.true c.test-item.is
    c.narrowed_by-ents.ensures.sorted c.narrowed_by-ents.ensures.kept c.loop-test.invariant
