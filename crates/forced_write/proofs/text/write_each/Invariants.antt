use Rattle.std.proofs.Common.{◌≡◌, drop}
use Rattle.log_write.specs.Pieces.{many_pieces}
use Rattle.text_write.specs.Spacing.{writes_all}
use Rattle.forced_write.specs.ForcedText.{pair_pieces}
use Rattle.forced_write.proofs.text.write_each.Given as goal

abbrev pub invariant-loop-pair : goal.invariant-loop-pair
invariant-loop-pair l =
    writes_all l.into (many_pieces (pair_pieces l.relations) (drop l.pair-index l.pairs))
    ≡ writes_all l.initial.into (many_pieces (pair_pieces l.relations) l.pairs)
