use Rattle.std.proofs.Common.{[], length, refl, arith}
use Rattle.std.proofs.lemmas.Option.{slice_get_read}
use Rattle.answer_laws.specs.Answered.{IsAnswerIn}
use Rattle.fact_trials.proofs.Lists.{all_more, all_taken}
use Rattle.fact_trials.proofs.failing.first_without.Goals as goal

pub loop-place-preserved : goal.loop-place-preserved
loop-place-preserved c =
    let cs = c.args.completions.now in
    let place = c.loop-place.place in
    all_more (IsAnswerIn c.args.spec.now.relations c.args.query.now []) cs place c.index-completions-place.result
    (slice_get_read cs (length cs) place c.index-completions-place.result refl c.loop-place-test.true
    c.index-completions-place.is)
    c.loop-place.invariant (c.in_ok-has_answer.ensures.has c.if-not-branch.false)

pub returns-clause-all : goal.returns-clause-all
returns-clause-all c =
    all_taken (IsAnswerIn c.args.spec.now.relations c.args.query.now []) c.args.completions.now c.loop-place.place
    (omega (arith, c.loop-place-test.false)) c.loop-place.invariant
