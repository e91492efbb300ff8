use Rattle.order_search.proofs.Cycles.{all_on, of_lists}
use Rattle.order_search.proofs.Models.{model_of}
use Rattle.order_search.proofs.rounds.completed.Goals as goal

pub returns-in-Ok-Whole-clause-some : goal.returns-in-Ok-Whole-clause-some
returns-in-Ok-Whole-clause-some g c =
    model_of c.models_are_completions.ensures.completions c.args.subject.now c.args.progress.now.solver
    c.args.progress.now.brought.items c.args.truths.now
    c.in-Ok-Whole.completion c.requires.held c.requires.whole c.requires.holds
    (rw c.in-Ok-Whole.field-0-is at c.in-Ok-Whole.ensures).0

pub bring_all-requires-clause-cycles : goal.bring_all-requires-clause-cycles
bring_all-requires-clause-cycles g c =
    of_lists c.args.subject.now c.args.truths.now c.in-Ok-Cyclic.cycles
    (rw c.in-Ok-Cyclic.field-0-is at c.in-Ok-Cyclic.ensures).0.each

pub returns-in-Ok-clause-none : goal.returns-in-Ok-clause-none
returns-in-Ok-clause-none g c =
    let is = (rw c.in-Ok-Cyclic.field-0-is at c.in-Ok-Cyclic.ensures) in
    c.in-Ok.ensures.fewer c.args.truths.now
    (all_on c.args.subject.now c.args.truths.now c.args.progress.now.solver.steps c.in-Ok-Cyclic.cycles c.requires.holds)
    is.0.each is.1
