use Rattle.std.proofs.Common.{◌∙◌, arith}
use Rattle.solver_guides.proofs.Turns.{choice_there, choice_past}
use Rattle.solver_guides.proofs.ring.ask_at.Goals as goal

pub returns-then-at-len-clause-choice : goal.returns-then-at-len-clause-choice
returns-then-at-len-clause-choice g c =
    c.ask.ensures
    ∙ choice_there (λ guide. (goal.Guide-dyn g (guide.vtable, guide.value)).choice guide.value)
    c.args.guides.now.items c.args.values.now
    c.len.result c.args.at c.index_mut.result.now (omega (arith, c.len.ensures, c.args.guides.now.ok.0))
    c.if-at-len.true c.index_mut.ensures.value

pub returns-else-at-len-clause-choice : goal.returns-else-at-len-clause-choice
returns-else-at-len-clause-choice g c =
    choice_past (λ guide. (goal.Guide-dyn g (guide.vtable, guide.value)).choice guide.value) c.args.guides.now.items
    c.args.values.now
    c.args.at (omega (arith, c.if-at-len.false, c.len.ensures, c.args.guides.now.ok.0))
