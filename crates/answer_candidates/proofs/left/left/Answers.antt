use Rattle.answer_candidates.proofs.Growing.{left_more}
use Rattle.answer_candidates.proofs.left.left.Goals as goal

pub loop-place-preserved : goal.loop-place-preserved
loop-place-preserved c =
    left_more c.args.gone.now c.loop-place.place _ c.loop-place.places c.push_if.new.places c.loop-place-test.true
    c.loop-place.invariant c.in-Ok.ensures
