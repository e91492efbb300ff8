use Rattle.certain_answers.proofs.Matching.{answers_over, matches_found, matches_in}
use Rattle.certain_answers.proofs.matches.first_matches.Goals as goal

pub matches_of-requires : goal.matches_of-requires
matches_of-requires c =
    answers_over c.instances_exist.ensures.one c.args.spec.now.relations c.args.completion.now c.args.query.now
    c.in-Ok.instance.relations c.in-Ok-new.indexed
    c.args.tuples.now c.in-Ok.ensures c.in-Ok-new.ensures c.requires.answers

pub returns : goal.returns
returns c =
    matches_found c.matches_of.result
    (λ matches are. matches_in c.args.spec.now.relations c.args.completion.now c.args.query.now
    c.in-Ok.instance.relations c.in-Ok-new.indexed
    c.args.tuples.now matches c.in-Ok.ensures c.in-Ok-new.ensures are)
    c.matches_of.ensures
