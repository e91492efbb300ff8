use Rattle.std.proofs.Common.{◌≡◌, drop}
use Rattle.log_write.specs.Pieces.{many_pieces}
use Rattle.text_write.specs.Spacing.{writes_all}
use Rattle.report_write.specs.Pieces.{further_row_pieces}
use Rattle.report_write.proofs.ranking.write_newer.Given as goal

abbrev pub invariant-loop-row : goal.invariant-loop-row
invariant-loop-row l =
    writes_all l.into (many_pieces (further_row_pieces l.relations l.rel.0) (drop l.row-index l.rows))
    ≡ writes_all l.initial.into (many_pieces (further_row_pieces l.relations l.rel.0) l.rows)
