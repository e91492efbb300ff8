use Rattle.entity_ties.specs.Labels.{cell}
use Rattle.currency_session.proofs.broken.part_of_row.Goals as goal

pub returns : goal.returns
returns c = c.requires.below (cell c.args.rel.0 c.row.result.now.entity.0) c.part_of.result c.part_of.ensures
