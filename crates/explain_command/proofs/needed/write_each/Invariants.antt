use Rattle.std.proofs.Common.{◌≡◌, ◌∷◌, drop}
use Rattle.log_write.specs.Pieces.{many_pieces}
use Rattle.text_write.specs.Spacing.{writes_all}
use Rattle.explain_command.specs.Text.{later_pieces, needed_pieces}
use Rattle.explain_command.proofs.needed.write_each.Given as goal

abbrev pub invariant-loop-needed : goal.invariant-loop-needed
invariant-loop-needed l =
    writes_all l.into (many_pieces (later_pieces l.spec l.first.without) (drop l.needed-index l.later))
    ≡ writes_all l.fn.into (needed_pieces l.spec (l.first ∷ l.later))
