use Rattle.std.proofs.Common.{◌+◌, ◌<◌, ◌∙◌, drop, length, sym, arith}
use Rattle.ucq_answers.specs.Partly.{fit_term}
use Rattle.ucq_answers.proofs.Bindings.{fit_apart, fit_end, fit_step, fit_stop, read_drop}
use Rattle.ucq_answers.proofs.fitting.fitted.Goals as goal

pub returns-then-terms-tuple : goal.returns-then-terms-tuple
returns-then-terms-tuple c = sym (fit_apart fit_term c.args.values.now c.args.terms.now c.args.tuple.now c.if-terms-tuple.true)

pub returns-then-not-fit_term : goal.returns-then-not-fit_term
returns-then-not-fit_term c =
    let inside : c.loop-place.place < length c.args.tuple.now = omega arith in
    sym (fit_stop fit_term c.loop-place.next (drop c.loop-place.place c.args.terms.now)
    (drop (c.loop-place.place + 1) c.args.terms.now) (drop c.loop-place.place c.args.tuple.now)
    (drop (c.loop-place.place + 1) c.args.tuple.now) c.index-terms-place.result c.index-tuple-place.result
    (read_drop c.args.terms.now c.loop-place.place c.index-terms-place.result c.loop-place-test.true c.index-terms-place.is)
    (read_drop c.args.tuple.now c.loop-place.place c.index-tuple-place.result inside c.index-tuple-place.is)
    (c.fit_term.ensures.no c.if-not-fit_term.true))
    ∙ c.loop-place.invariant

pub loop-place-preserved : goal.loop-place-preserved
loop-place-preserved c =
    let inside : c.loop-place.place < length c.args.tuple.now = omega arith in
    sym (fit_step fit_term c.loop-place.next c.fit_term.new.self (drop c.loop-place.place c.args.terms.now)
    (drop (c.loop-place.place + 1) c.args.terms.now) (drop c.loop-place.place c.args.tuple.now)
    (drop (c.loop-place.place + 1) c.args.tuple.now) c.index-terms-place.result c.index-tuple-place.result
    (read_drop c.args.terms.now c.loop-place.place c.index-terms-place.result c.loop-place-test.true c.index-terms-place.is)
    (read_drop c.args.tuple.now c.loop-place.place c.index-tuple-place.result inside c.index-tuple-place.is)
    (c.fit_term.ensures.yes c.if-not-fit_term.false))
    ∙ c.loop-place.invariant

pub returns : goal.returns
returns c = sym (fit_end fit_term c.loop-place.next c.args.terms.now c.args.tuple.now c.loop-place.place
    c.loop-place-test.false c.if-terms-tuple.false) ∙ c.loop-place.invariant
