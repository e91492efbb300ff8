use Rattle.certain_answers.proofs.Fronts.{item_at}
use Rattle.certain_answers.proofs.Going.{gone_none, refuted_at}
use Rattle.certain_answers.proofs.decisions.refuted.Goals as goal

pub returns-in-Ok-aim-clause-outcome : goal.returns-in-Ok-aim-clause-outcome
returns-in-Ok-aim-clause-outcome g c = λ left.
    let tuple = item_at c.args.candidates.now.tuples c.args.place c.requires.place in
    c.in-Ok.ensures.refuted c.args.place tuple.0 tuple.1
    (refuted_at c.args.spec.now c.args.query.now c.args.search.now c.args.search.now c.args.candidates.now.tuples
    c.args.place c.args.completion
    tuple.0 (gone_none c.args.search.now) c.requires.search c.requires.answers tuple.1 c.requires.refuted)
