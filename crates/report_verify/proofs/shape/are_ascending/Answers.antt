use Rattle.std.proofs.Common.{◌-◌, length, refl, arith}
use Rattle.std.proofs.lemmas.Option.{slice_get_read, slice_get_within}
use Rattle.report_verify.proofs.Rising.{rise_more, risen}
use Rattle.report_verify.proofs.shape.are_ascending.Goals as goal

pub loop-place-preserved : goal.loop-place-preserved
loop-place-preserved c =
    let xs = c.args.tuples.now in
    let place = c.loop-place.place in
    let before = slice_get_read xs (length xs) (place - 1) c.index-tuples-before.result refl
    (omega (arith, c.loop-place-test.true)) c.index-tuples-before.is in
    let here = slice_get_read xs (length xs) place c.index-tuples-place.result refl c.loop-place-test.true
    c.index-tuples-place.is in
    record {
      some = omega arith;
      rise = rise_more xs place c.index-tuples-before.result c.index-tuples-place.result c.loop-place.invariant.some before here
          (c.is_below.ensures.is c.if-not-is_below.false) c.loop-place.invariant.rise;
    }

pub returns-then-not-is_below-clause-other : goal.returns-then-not-is_below-clause-other
returns-then-not-is_below-clause-other c = λ e ascending.
    let xs = c.args.tuples.now in
    let place = c.loop-place.place in
    let before = slice_get_read xs (length xs) (place - 1) c.index-tuples-before.result refl
    (omega (arith, c.loop-place-test.true)) c.index-tuples-before.is in
    let here = slice_get_read xs (length xs) place c.index-tuples-place.result refl c.loop-place-test.true
    c.index-tuples-place.is in
    c.is_below.ensures.apart c.if-not-is_below.true
    (ascending (place - 1) place c.index-tuples-before.result c.index-tuples-place.result
    (omega (arith, c.loop-place.invariant.some)) before here)

pub returns-clause-are : goal.returns-clause-are
returns-clause-are c = λ e.
    risen c.laws_of_tuple_order.ensures.total c.args.tuples.now c.loop-place.place
    (λ i x at. omega (arith, slice_get_within c.args.tuples.now i x at, c.loop-place-test.false)) c.loop-place.invariant.rise
