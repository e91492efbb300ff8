use Rattle.std.proofs.Common.{◌≡◌, ◌++◌, drop}
use Rattle.text_write.specs.Spacing.{writes_all}
use Rattle.spec_write.specs.Pieces.{many_pieces, separator_pieces}
use Rattle.spec_write.proofs.listed.write_further.Given as goal

abbrev pub invariant-loop-item : goal.invariant-loop-item
invariant-loop-item g l =
    writes_all l.into (many_pieces (λ y. separator_pieces l.separator ++ g.W.Written.pieces y) (drop l.item-index l.items))
    ≡ writes_all l.initial.into (many_pieces (λ y. separator_pieces l.separator ++ g.W.Written.pieces y) l.items)
