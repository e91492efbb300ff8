use Rattle.certain_answers.proofs.Matching.{matches_more}
use Rattle.certain_answers.proofs.matches.matches_of.Goals as goal

pub loop-place-preserved : goal.loop-place-preserved
loop-place-preserved c =
    matches_more c.args.indexed.now c.args.tuples.now c.loop-place.place c.loop-place.matches c.push.new.self _
    c.loop-place.invariant c.in-Ok.ensures
    c.in-Ok-push.ensures.ok
