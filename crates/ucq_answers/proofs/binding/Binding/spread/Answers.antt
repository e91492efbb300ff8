use Rattle.std.proofs.Common.{◌∙◌}
use Rattle.ucq_answers.proofs.Spreading.{spread_step}
use Rattle.ucq_answers.proofs.binding.Binding.spread.Goals as goal

pub loop-equality-preserved : goal.loop-equality-preserved
loop-equality-preserved c =
    spread_step c.args.equalities.now c.loop-equality.equality-index c.equality-item.result c.loop-equality.self
    c.put_side.new.self c.loop-equality-test.true c.equality-item.is c.put_side.ensures ∙ c.loop-equality.invariant
