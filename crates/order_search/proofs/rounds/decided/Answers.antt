use Rattle.order_search.proofs.Growing.{added_then, tied_same, same_added}
use Rattle.order_search.proofs.rounds.decided.Goals as goal

pub returns-in-Ok-clause-added : goal.returns-in-Ok-clause-added
returns-in-Ok-clause-added g c =
    let old = c.args.progress.now.solver in
    let wide = c.widen.new.progress.solver in
    added_then old wide c.decided_on_all.new.progress.solver (same_added old wide c.widen.ensures.frame c.widen.ensures.steps)
    c.decided_on_all.ensures.added

pub returns-in-Ok-clause-tied : goal.returns-in-Ok-clause-tied
returns-in-Ok-clause-tied g c = λ p h.
    c.decided_on_all.ensures.tied p
    (tied_same c.args.subject.now c.args.progress.now.solver.steps c.widen.new.progress.solver.steps c.widen.ensures.steps p h)

pub returns-in-Err-clause-added : goal.returns-in-Err-clause-added
returns-in-Err-clause-added g c =
    same_added c.args.progress.now.solver c.widen.new.progress.solver c.widen.ensures.frame c.widen.ensures.steps

pub returns-in-Err-clause-tied : goal.returns-in-Err-clause-tied
returns-in-Err-clause-tied g c = λ p h.
    tied_same c.args.subject.now c.args.progress.now.solver.steps c.widen.new.progress.solver.steps c.widen.ensures.steps p h
