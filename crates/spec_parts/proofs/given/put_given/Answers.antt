use Rattle.std.proofs.Common.{◌≤◌, length, ap, arith}
use Rattle.spec_parts.proofs.Adding.{grows_none, grows_also}
use Rattle.spec_parts.proofs.GivenSteps.{given_more, given_all}
use Rattle.spec_parts.proofs.given.put_given.Goals as goal

pub loop-rel-init : goal.loop-rel-init
loop-rel-init c = record {
  grows = grows_none c.args.whole.now c.args.places.now c.args.part.now c.requires.so_far;
  added = λ k below. absurd (omega (arith, below));
}

pub loop-rel-preserved : goal.loop-rel-preserved
loop-rel-preserved c =
    let whole = c.args.whole.now in
    let places = c.args.places.now in
    let put = c.in_ok-put_given_of.ensures in
    record {
      grows = grows_also whole places c.args.part.now c.loop-rel.part c.put_given_of.new.part
          c.loop-rel.invariant.grows put.grows;
      added = given_more whole places c.loop-rel.part c.put_given_of.new.part c.loop-rel.rel put.grows
          c.loop-rel.invariant.added put.given;
    }

pub returns-clause-given : goal.returns-clause-given
returns-clause-given c =
    let same = ap length c.relations-rel-end.ensures.value in
    let end : length c.args.whole.now.relations ≤ c.loop-rel.rel = omega (arith, same, c.loop-rel-test.false) in
    given_all c.args.whole.now c.args.places.now c.loop-rel.part.relations c.loop-rel.rel end c.loop-rel.invariant.added
