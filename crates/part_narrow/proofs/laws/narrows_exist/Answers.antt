use Rattle.part_narrow.proofs.NarrowMade.{narrows_exist}
use Rattle.part_narrow.proofs.laws.narrows_exist.Goals as goal

pub returns : goal.returns
returns c = narrows_exist
