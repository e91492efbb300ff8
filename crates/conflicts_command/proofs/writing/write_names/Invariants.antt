use Rattle.std.proofs.Common.{◌≡◌, drop}
use Rattle.log_write.specs.Pieces.{many_pieces}
use Rattle.text_write.specs.Spacing.{writes_all}
use Rattle.conflicts_command.specs.Text.{entity_line}
use Rattle.conflicts_command.proofs.writing.write_names.Given as goal

abbrev pub invariant-loop-entity : goal.invariant-loop-entity
invariant-loop-entity l =
    writes_all l.into (many_pieces (entity_line l.relation) (drop l.entity-index l.entities))
    ≡ writes_all l.initial.into (many_pieces (entity_line l.relation) l.entities)
