use Rattle.std.proofs.Common.{◌≡◌, drop}
use Rattle.log_write.specs.Pieces.{many_pieces}
use Rattle.text_write.specs.Spacing.{writes_all}
use Rattle.report_write.specs.Pieces.{current_pieces}
use Rattle.report_write.proofs.verdict.write_currents.Given as goal

abbrev pub invariant-loop-item : goal.invariant-loop-item
invariant-loop-item l =
    writes_all l.into (many_pieces (current_pieces l.relations) (drop l.item-index l.items))
    ≡ writes_all l.initial.into (many_pieces (current_pieces l.relations) l.items)
