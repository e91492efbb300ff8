use Rattle.std.proofs.Common.{◌≡◌, drop}
use Rattle.log_write.specs.Pieces.{many_pieces}
use Rattle.text_write.specs.Spacing.{writes_all}
use Rattle.report_write.specs.Clauses.{answer_pieces}
use Rattle.report_write.proofs.verdict.write_tuples.Given as goal

abbrev pub invariant-loop-tuple : goal.invariant-loop-tuple
invariant-loop-tuple l =
    writes_all l.into (many_pieces answer_pieces (drop l.tuple-index l.tuples)) ≡ writes_all l.initial.into
    (many_pieces answer_pieces l.tuples)
