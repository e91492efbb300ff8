use Rattle.part_facts.proofs.AskedParts.{parts_are_asked}
use Rattle.part_facts.proofs.laws.parts_are_asked.Goals as goal

pub returns : goal.returns
returns c = parts_are_asked
