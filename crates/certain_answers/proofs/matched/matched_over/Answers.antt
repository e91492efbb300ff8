use Rattle.certain_answers.proofs.Matching.{each_in, none_found, none_in, some_found}
use Rattle.certain_answers.proofs.matched.matched_over.Goals as goal

pub returns-clause-some : goal.returns-clause-some
returns-clause-some c =
    some_found c.matched_in.result
    (λ matched each. each_in c.args.spec.now.relations c.args.completion.now c.args.query.now
    c.in-Ok.instance.relations c.in-Ok-new.indexed
    c.args.tuple.now matched c.in-Ok.ensures c.in-Ok-new.ensures each)
    c.matched_in.ensures.some

pub returns-clause-none : goal.returns-clause-none
returns-clause-none c =
    none_found c.matched_in.result
    (none_in c.instances_exist.ensures.one c.args.spec.now.relations c.args.completion.now c.args.query.now
    c.in-Ok.instance.relations c.in-Ok-new.indexed
    c.args.tuple.now c.in-Ok.ensures c.in-Ok-new.ensures)
    c.matched_in.ensures.none
