use Rattle.item_limits.proofs.FewerItems.{fewer_within}
use Rattle.item_limits.proofs.laws.fewer_are_within.Goals as goal

pub returns : goal.returns
returns c = fewer_within
