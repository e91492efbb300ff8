use Rattle.std.proofs.Common.{◌+◌, ◌<◌, ◌∙◌, drop, length, get_or, sym, arith}
use Rattle.std.proofs.lemmas.List.{drop_more}
use Rattle.ucq_answers.specs.Partly.{bind}
use Rattle.ucq_answers.proofs.Bindings.{fit_apart, fit_end, fit_step, fit_stop, read_drop}
use Rattle.ucq_answers.proofs.fitting.bound.Goals as goal

pub returns-then-vars-tuple : goal.returns-then-vars-tuple
returns-then-vars-tuple c = sym (fit_apart bind c.args.values c.args.vars.now c.args.tuple.now c.if-vars-tuple.true)

pub returns-then-not-bind : goal.returns-then-not-bind
returns-then-not-bind c =
    let inside : c.loop-place.place < length c.args.tuple.now = omega arith in
    sym (fit_stop bind c.loop-place.values (drop c.loop-place.place c.args.vars.now)
    (drop (c.loop-place.place + 1) c.args.vars.now) (drop c.loop-place.place c.args.tuple.now)
    (drop (c.loop-place.place + 1) c.args.tuple.now) (get_or c.args.vars.now c.loop-place.place 0) c.index-tuple-place.result
    (drop_more c.args.vars.now c.loop-place.place 0 c.loop-place-test.true)
    (read_drop c.args.tuple.now c.loop-place.place c.index-tuple-place.result inside c.index-tuple-place.is)
    (c.bind.ensures.no c.if-not-bind.true))
    ∙ c.loop-place.invariant

pub loop-place-preserved : goal.loop-place-preserved
loop-place-preserved c =
    let inside : c.loop-place.place < length c.args.tuple.now = omega arith in
    sym (fit_step bind c.loop-place.values c.bind.new.self (drop c.loop-place.place c.args.vars.now)
    (drop (c.loop-place.place + 1) c.args.vars.now) (drop c.loop-place.place c.args.tuple.now)
    (drop (c.loop-place.place + 1) c.args.tuple.now) (get_or c.args.vars.now c.loop-place.place 0) c.index-tuple-place.result
    (drop_more c.args.vars.now c.loop-place.place 0 c.loop-place-test.true)
    (read_drop c.args.tuple.now c.loop-place.place c.index-tuple-place.result inside c.index-tuple-place.is)
    (c.bind.ensures.yes c.if-not-bind.false))
    ∙ c.loop-place.invariant

pub returns : goal.returns
returns c = sym (fit_end bind c.loop-place.values c.args.vars.now c.args.tuple.now c.loop-place.place
    c.loop-place-test.false c.if-vars-tuple.false) ∙ c.loop-place.invariant
