use Rattle.std.proofs.Common.{◌≡◌, drop}
use Rattle.log_write.specs.Pieces.{many_pieces}
use Rattle.text_write.specs.Spacing.{writes_all}
use Rattle.conflicts_command.specs.Text.{conflict_pieces}
use Rattle.conflicts_command.proofs.writing.write_each.Given as goal

abbrev pub invariant-loop-conflict : goal.invariant-loop-conflict
invariant-loop-conflict l =
    writes_all l.into (many_pieces conflict_pieces (drop l.conflict-index l.found))
    ≡ writes_all l.initial.into (many_pieces conflict_pieces l.found)
