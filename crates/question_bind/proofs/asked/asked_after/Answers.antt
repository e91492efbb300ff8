-- The pairs of one part more are asked about.
use Rattle.question_bind.proofs.Pushed.{asked_more}
use Rattle.question_bind.proofs.asked.asked_after.Goals as goal

pub loop-place-preserved : goal.loop-place-preserved
loop-place-preserved c =
    asked_more c.args.so_far c.loop-place.asked c.in-Ok.more c.args.heads.now c.args.lists.now c.loop-place.place _
    c.as_slice.result.now c.get.result.now c.requires.lists c.loop-place-test.true
    c.get.ensures c.as_slice.ensures c.in-Ok.ensures c.loop-place.invariant
