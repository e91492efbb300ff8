use Rattle.std.proofs.lemmas.Result.{IfOk-weaker}
use Rattle.fact_trials.proofs.Instances.{over_instance}
use Rattle.fact_trials.proofs.failing.has_answer.Goals as goal

pub returns-clause-lacks : goal.returns-clause-lacks
returns-clause-lacks c =
    IfOk-weaker c.has_empty.result _ _
    (λ has lacks none is.
    lacks none
    (over_instance c.one_current_instance.ensures c.args.spec.now.relations c.args.query.now c.args.completion.now
    c.in_ok-instance.instance.relations c.in_ok-indexed.indexed c.in_ok-instance.ensures c.in_ok-indexed.ensures is))
    c.has_empty.ensures.lacks
