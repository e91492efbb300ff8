use Rattle.spec_items.proofs.AllKept.{consistent_of_all}
use Rattle.spec_items.proofs.laws.all_items.Goals as goal

pub returns : goal.returns
returns c = consistent_of_all
