use Rattle.part_laws.proofs.Narrowed.{parts_narrow}
use Rattle.part_laws.proofs.laws.parts_narrow.Goals as goal

pub returns : goal.returns
returns c = parts_narrow
