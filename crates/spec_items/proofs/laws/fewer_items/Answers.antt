use Rattle.spec_items.proofs.Fewer.{consistent_of_fewer}
use Rattle.spec_items.proofs.laws.fewer_items.Goals as goal

pub returns : goal.returns
returns c = consistent_of_fewer
