use Rattle.std.proofs.Common.{◌≡◌, ◌+◌, ◌≤◌, ℕ, length, refl, arith}
use Rattle.std.proofs.lemmas.Option.{slice_get_read}
use Rattle.report_verify.proofs.Fronts.{all_more, all_taken}
use Rattle.report_verify.proofs.Needing.{answer_at, answer_need, first_unmet, length_answers}
use Rattle.report_verify.proofs.needs.check_answers.Goals as goal
use Rattle.report_verify.specs.Supported.{IsDerived, answer_needs}

pub returns-then-not-has_answer-clause-unmet : goal.returns-then-not-has_answer-clause-unmet
returns-then-not-has_answer-clause-unmet c =
    let tuples = c.args.tuples.now in
    let place = c.loop-place.place in
    let here = slice_get_read tuples (length tuples) place c.index-tuples-place.result refl c.loop-place-test.true
    c.index-tuples-place.is in
    let relations = c.args.units.now.relations in
    let log = c.args.units.now.log in
    c.unmet_item.ensures 0 place relations log (answer_needs 0 tuples) (plain place)
    (first_unmet relations log (answer_needs 0 tuples) place (answer_need place c.index-tuples-place.result)
    (answer_at tuples place c.index-tuples-place.result here)
    (c.has_answer.ensures.missing c.if-not-has_answer.true) c.loop-place.invariant)
  where
    plain : (n : ℕ) → n ≡ 0 + n
    plain n = omega arith

pub loop-place-preserved : goal.loop-place-preserved
loop-place-preserved c =
    let tuples = c.args.tuples.now in
    let place = c.loop-place.place in
    let here = slice_get_read tuples (length tuples) place c.index-tuples-place.result refl c.loop-place-test.true
    c.index-tuples-place.is in
    all_more (IsDerived c.args.units.now.relations c.args.units.now.log) (answer_needs 0 tuples) place
    (answer_need place c.index-tuples-place.result) (answer_at tuples place c.index-tuples-place.result here)
    c.loop-place.invariant
    (c.has_answer.ensures.there c.if-not-has_answer.false)

pub returns-clause-derived : goal.returns-clause-derived
returns-clause-derived c =
    let past : length (answer_needs 0 c.args.tuples.now) ≤ c.loop-place.place =
    (let test = c.loop-place-test.false in let count = length_answers 0 c.args.tuples.now in omega (arith, test, count)) in
    all_taken (IsDerived c.args.units.now.relations c.args.units.now.log) (answer_needs 0 c.args.tuples.now)
    c.loop-place.place past
    c.loop-place.invariant
