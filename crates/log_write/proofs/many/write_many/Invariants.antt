use Rattle.std.proofs.Common.{◌≡◌, drop}
use Rattle.text_write.specs.Spacing.{writes_all}
use Rattle.log_write.specs.Pieces.{many_pieces}
use Rattle.log_write.proofs.many.write_many.Given as goal

abbrev pub invariant-loop-item : goal.invariant-loop-item
invariant-loop-item g l =
    writes_all l.into (many_pieces g.W.Written.pieces (drop l.item-index l.items)) ≡ writes_all l.initial.into
    (many_pieces g.W.Written.pieces l.items)
