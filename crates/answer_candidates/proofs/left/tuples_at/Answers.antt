use Rattle.answer_candidates.proofs.Growing.{tuples_more}
use Rattle.answer_candidates.proofs.left.tuples_at.Goals as goal

pub loop-at-preserved : goal.loop-at-preserved
loop-at-preserved c =
    tuples_more c.args.tuples.now c.args.places.now c.loop-at.found c.push.new.self c.loop-at.at _ _ _ c.loop-at.invariant
    c.get.ensures c.get-in-loop-at.ensures c.in-Ok.ensures c.in-Ok-push.ensures.ok
