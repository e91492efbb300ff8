use Rattle.item_write.proofs.Placing.{item_placed}
use Rattle.item_write.proofs.item.is_placed.Goals as goal

pub returns : goal.returns
returns c = item_placed c.args.spec.now c.args.item c.relations.ensures.facts c.copies.ensures.facts c.requires
