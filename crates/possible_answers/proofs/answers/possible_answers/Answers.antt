use Rattle.std.proofs.lemmas.Result.{IfOk-weaker}
use Rattle.possible_answers.proofs.Tuples.{answers_are}
use Rattle.possible_answers.proofs.answers.possible_answers.Goals as goal

pub returns : goal.returns
returns c =
    IfOk-weaker c.distinct.result _ _ (λ list is. answers_are c.instances_exist.ensures.exist c.args.spec.now
    c.relations.ensures.facts c.args.query.now c.args.found.now c.requires.found list is)
    (rw c.as_slice.ensures at (rw c.as_slice-2.ensures at (rw c.in_ok-tuples.ensures at c.distinct.ensures)))
