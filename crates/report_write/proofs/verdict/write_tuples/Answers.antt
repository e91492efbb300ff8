use Rattle.std.proofs.Common.{◌∙◌}
use Rattle.report_write.specs.Clauses.{answer_pieces}
use Rattle.report_write.proofs.Listing.{list_more}
use Rattle.report_write.proofs.verdict.write_tuples.Goals as goal

pub loop-tuple-preserved : goal.loop-tuple-preserved
loop-tuple-preserved c =
    list_more answer_pieces c.args.tuples.now c.loop-tuple.tuple-index c.tuple-item.result _ _ c.loop-tuple-test.true
    c.tuple-item.is
    c.in_ok-write_answer.ensures
    ∙ c.loop-tuple.invariant
