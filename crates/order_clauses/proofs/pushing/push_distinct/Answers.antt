use Rattle.std.proofs.lemmas.Result.{on_ok_weaker}
use Rattle.refutation_log.specs.Steps.{label_of}
use Rattle.order_clauses.proofs.Saying.{adds_clause, distinct_of_once}
use Rattle.order_clauses.proofs.pushing.push_distinct.Goals as goal

pub returns : goal.returns
returns c = on_ok_weaker c.push.result
    (adds_clause c.args.sayings.now (label_of c.args.label) c.args.lits.now c.args.lits.now c.args.steps.now
    c.push.new.self c.requires.clause
    (distinct_of_once c.args.lits.now c.requires.once))
    c.push.ensures.ok
