use Rattle.std.proofs.Common.{take}
use Rattle.entity_ties.specs.Chosen.{AreChosen}
use Rattle.entity_ties.proofs.chosen.chosen_entities.Given as goal

abbrev pub invariant-loop-part : goal.invariant-loop-part
invariant-loop-part l = AreChosen l.parts (take l.part-index l.chosen) l.relations l.found
