use Rattle.std.proofs.Common.{◌≡◌, ◌<◌, ◌∙◌, length, slice_set, arith}
use Rattle.std.proofs.lemmas.List.{length-set}
use Rattle.count_tree.proofs.Written.{all_right, right_below}
use Rattle.count_tree.proofs.tournament.mend.Goals as goal

pub loop-place-preserved : goal.loop-place-preserved
loop-place-preserved c =
    let long : length (slice_set c.loop-place.best c.loop-place.place c.winner.result) ≡ length c.loop-place.best =
    length-set c.loop-place.best c.loop-place.place c.winner.result in
    let pos : 0 < c.loop-place.place = omega arith in
    record {
      as_long = long ∙ c.loop-place.invariant.as_long;
      within = omega arith;
      below = right_below _ _ _ _ _ pos c.loop-place.invariant.within c.winner.ensures c.loop-place.invariant.below;
    }

pub returns-clause-right : goal.returns-clause-right
returns-clause-right c = all_right _ _ _ _ (omega arith) c.loop-place.invariant.below
