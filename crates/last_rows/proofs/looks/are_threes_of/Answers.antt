use Rattle.refutation_log.specs.Steps.{clauses_of}
use Rattle.last_rows.proofs.Looked.{threes_of_more}
use Rattle.last_rows.proofs.looks.are_threes_of.Goals as goal

pub loop-second-preserved : goal.loop-second-preserved
loop-second-preserved c =
    threes_of_more c.args.list.now (clauses_of c.args.earlier.now) c.args.third c.loop-second.second
    c.loop-second.invariant (c.are_threes_at.ensures c.if-not-are_threes_at.false)
