use Rattle.std.proofs.Common.{◌∙◌}
use Rattle.item_write.proofs.Listing.{list_more}
use Rattle.log_write.specs.Pieces.{entity_pieces}
use Rattle.possible_command.proofs.candidate.write_entities.Goals as goal

pub loop-entity-preserved : goal.loop-entity-preserved
loop-entity-preserved c =
    list_more entity_pieces c.args.entities.now c.loop-entity.entity-index _ _ _ c.loop-entity-test.true
    c.in_ok-write_number.ensures
    ∙ c.loop-entity.invariant
