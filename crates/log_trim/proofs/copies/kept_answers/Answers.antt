use Rattle.log_trim.specs.Marked.{is_marked}
use Rattle.log_trim.proofs.Ranks.{copied_more}
use Rattle.log_trim.proofs.copies.kept_answers.Goals as goal

pub loop-place-preserved : goal.loop-place-preserved
loop-place-preserved c =
    copied_more (is_marked c.args.kept.now) c.args.answers.now c.loop-place.place c.get.result.now c.is_kept.result
    c.loop-place.list _
    c.get.ensures c.is_kept.ensures c.loop-place.invariant c.in_ok-push_answer.ensures
