use Rattle.std.proofs.Common.{◌≡◌, drop}
use Rattle.log_write.specs.Pieces.{many_pieces}
use Rattle.text_write.specs.Spacing.{writes_all}
use Rattle.conflicts_command.specs.Text.{relation_lines}
use Rattle.conflicts_command.proofs.writing.write_relations.Given as goal

abbrev pub invariant-loop-relation : goal.invariant-loop-relation
invariant-loop-relation l =
    writes_all l.into (many_pieces relation_lines (drop l.relation-index l.relations))
    ≡ writes_all l.initial.into (many_pieces relation_lines l.relations)
