use Rattle.part_whole.proofs.Wholes.{whole_parts}
use Rattle.part_whole.proofs.laws.whole_parts.Goals as goal

pub returns : goal.returns
returns c = whole_parts c.parts_narrow.ensures
