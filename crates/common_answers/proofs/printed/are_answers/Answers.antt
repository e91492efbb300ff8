use Rattle.std.proofs.Common.{◌≡◌, ◌<◌, ◌≤◌, get_or, length, refl}
use Rattle.std.proofs.lemmas.Option.{slice_get_read}
use Rattle.common_answers.proofs.Lists.{all_more, all_taken}
use Rattle.common_answers.proofs.printed.are_answers.Goals as goal
use Rattle.query_model.specs.Answers.{IsAnswer}

pub loop-tuple-preserved : goal.loop-tuple-preserved
loop-tuple-preserved c =
    let below : c.loop-tuple.tuple-index < length c.args.tuples.now = rw (← c.as_slice-tuple-items.ensures)
    c.loop-tuple-test.true in
    let here : c.tuple-item.result ≡ get_or c.args.tuples.now c.loop-tuple.tuple-index c.tuple-item.result =
    rw (← c.as_slice-tuple-items.ensures) c.tuple-item.is in
    all_more (IsAnswer c.args.indexed.now.query c.args.indexed.now.instance) c.args.tuples.now
    c.loop-tuple.tuple-index c.tuple-item.result
    (slice_get_read c.args.tuples.now (length c.args.tuples.now) c.loop-tuple.tuple-index c.tuple-item.result refl below here)
    c.loop-tuple.invariant (c.in_ok-is_answer.ensures.is c.if-not-branch.false)

pub returns-clause-are : goal.returns-clause-are
returns-clause-are c = λ e.
    let past : length c.args.tuples.now ≤ c.loop-tuple.tuple-index = rw (← c.as_slice-tuple-items.ensures)
    c.loop-tuple-test.false in
    all_taken (IsAnswer c.args.indexed.now.query c.args.indexed.now.instance) c.args.tuples.now c.loop-tuple.tuple-index past
    c.loop-tuple.invariant
