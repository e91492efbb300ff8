use Rattle.std.proofs.Common.{◌≡◌, drop}
use Rattle.log_write.specs.Pieces.{entity_pieces, many_pieces}
use Rattle.text_write.specs.Spacing.{writes_all}
use Rattle.possible_command.proofs.candidate.write_entities.Given as goal

abbrev pub invariant-loop-entity : goal.invariant-loop-entity
invariant-loop-entity l =
    writes_all l.into (many_pieces entity_pieces (drop l.entity-index l.entities))
    ≡ writes_all l.initial.into (many_pieces entity_pieces l.entities)
