use Rattle.std.proofs.lemmas.Option.{slice_get-get_or}
use Rattle.order_clauses.proofs.Saying.{distinct_more}
use Rattle.order_clauses.proofs.pushing.keep_distinct.Goals as goal

pub loop-lit-preserved : goal.loop-lit-preserved
loop-lit-preserved c =
    distinct_more c.args.lits.now c.loop-lit.distinct.items _ c.loop-lit.lit-index _
    (slice_get-get_or c.args.lits.now c.loop-lit.lit-index _ c.loop-lit-test.true) c.loop-lit.invariant c.in_ok-add_new.ensures
