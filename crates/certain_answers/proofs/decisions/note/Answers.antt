use Rattle.certain_answers.proofs.Matching.{is_in}
use Rattle.certain_answers.proofs.decisions.note.Goals as goal

pub returns-clause-refuted : goal.returns-clause-refuted
returns-clause-refuted c = λ place tuple at never.
    c.note.ensures.noted place tuple at
    (λ answer. never (is_in c.args.spec.now.relations c.args.completion c.args.query.now c.in-Ok.instance.relations
    c.in-Ok-new.indexed tuple c.in-Ok.ensures
    c.in-Ok-new.ensures answer))
