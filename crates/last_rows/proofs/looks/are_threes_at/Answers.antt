use Rattle.refutation_log.specs.Steps.{clauses_of}
use Rattle.last_rows.proofs.Looked.{threes_at_more}
use Rattle.last_rows.proofs.looks.are_threes_at.Goals as goal

pub loop-first-preserved : goal.loop-first-preserved
loop-first-preserved c =
    threes_at_more c.args.list.now (clauses_of c.args.earlier.now) c.args.second c.args.third c.loop-first.first
    c.loop-first.invariant (c.is_three_or_two.ensures c.if-not-is_three_or_two.false)
