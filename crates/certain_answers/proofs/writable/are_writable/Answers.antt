use Rattle.std.proofs.Common.{◌≤◌, length, subst, arith}
use Rattle.refutation_log.specs.Writable.{AreFew}
use Rattle.currency_base.specs.Values.{IsValue}
use Rattle.certain_answers.proofs.Fronts.{all_more, all_taken}
use Rattle.certain_answers.proofs.writable.are_writable.Goals as goal

pub returns : goal.returns
returns c told =
    let all : length c.args.tuples.now ≤ c.loop-place.place = omega arith in
    all_taken (AreFew IsValue) c.args.tuples.now c.loop-place.place all c.loop-place.invariant

pub loop-place-preserved : goal.loop-place-preserved
loop-place-preserved c =
    all_more (AreFew IsValue) c.args.tuples.now c.loop-place.place c.get.result.now c.get.ensures c.loop-place.invariant
    (subst (AreFew IsValue) c.as_slice.ensures (c.is_tuple.ensures c.if-not-is_tuple.false))
