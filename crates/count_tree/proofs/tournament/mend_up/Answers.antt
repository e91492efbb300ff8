use Rattle.std.proofs.Common.{◌≡◌, ◌<◌, ◌∙◌, length, slice_set, arith}
use Rattle.std.proofs.lemmas.List.{length-set}
use Rattle.count_tree.proofs.Written.{right_all, right_but, right_none}
use Rattle.count_tree.proofs.tournament.mend_up.Goals as goal

pub loop-place-preserved : goal.loop-place-preserved
loop-place-preserved c =
    let long : length (slice_set c.loop-place.best c.loop-place.place c.winner-first.result) ≡ length c.loop-place.best =
    length-set c.loop-place.best c.loop-place.place c.winner-first.result in
    let pos : 0 < c.loop-place.place = omega arith in
    record {
      as_long = long ∙ c.loop-place.invariant.as_long;
      within = omega arith;
      but = right_but _ _ _ _ _ pos c.loop-place.invariant.within c.winner-first.ensures c.loop-place.invariant.but;
    }

pub returns-then-best-place-clause-right : goal.returns-then-best-place-clause-right
returns-then-best-place-clause-right c =
    right_all _ _ _ c.loop-place.place c.winner-first.result c.if-best-place.true c.winner-first.ensures c.loop-place.invariant.but

pub returns-clause-right : goal.returns-clause-right
returns-clause-right c = right_none _ _ _ _ (omega arith) c.loop-place.invariant.but
