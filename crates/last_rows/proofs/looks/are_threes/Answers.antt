use Rattle.refutation_log.specs.Steps.{clauses_of}
use Rattle.last_rows.proofs.Looked.{threes_below_more}
use Rattle.last_rows.proofs.looks.are_threes.Goals as goal

pub loop-third-preserved : goal.loop-third-preserved
loop-third-preserved c =
    threes_below_more c.args.list.now (clauses_of c.args.earlier.now) c.loop-third.third
    c.loop-third.invariant (c.are_threes_of.ensures c.if-not-are_threes_of.false)
