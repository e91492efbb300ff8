use Rattle.part_limits.proofs.PartsWithin.{parts_within}
use Rattle.part_limits.proofs.laws.parts_are_within.Goals as goal

pub returns : goal.returns
returns c = parts_within
