use Rattle.std.proofs.Common.{arith}
use Rattle.fact_trials.proofs.Tellings.{answered_holds, tells_place}
use Rattle.fact_trials.proofs.failing.place_without.Goals as goal

pub returns-then-len-gt0 : goal.returns-then-len-gt0
returns-then-len-gt0 c =
    answered_holds c.args.spec.now c.args.question.now c.args.tuples.now c.args.completions.now c.requires.question
    c.requires.answers (omega (arith, c.len.ensures, c.if-len-gt0.true))

pub returns : goal.returns
returns c =
    tells_place c.args.spec.now c.args.question.now c.args.tuples.now c.args.completions.now c.requires.answers
    (λ some. omega (arith, some, c.len.ensures, c.if-len-gt0.false)) c.in-Answers.query c.in-Answers.is c.first_without.result
    c.first_without.ensures.lacks c.first_without.ensures.all
