use Rattle.std.proofs.Common.{◌≡◌, ◌∙◌, ◌-◌, ◌<◌, length, slice_set, arith}
use Rattle.std.proofs.lemmas.List.{length-set}
use Rattle.count_tree.proofs.Written.{right_after}
use Rattle.count_tree.proofs.tournament.mend_all.Goals as goal

pub loop-place-preserved : goal.loop-place-preserved
loop-place-preserved c =
    let here = c.loop-place.place - 1 in
    let pos : 0 < here = omega arith in
    let inside : here < length c.loop-place.best = omega arith in
    let long : length (slice_set c.loop-place.best here c.winner.result) ≡ length c.loop-place.best =
    length-set c.loop-place.best here c.winner.result in
    record {
      as_long = long ∙ c.loop-place.invariant.as_long;
      within = omega arith;
      after = right_after _ _ here _ _ pos inside c.winner.ensures (λ place after. c.loop-place.invariant.after place
          (omega arith));
    }
