use Rattle.std.proofs.Common.{take}
use Rattle.std.specs.List.{AllZip}
use Rattle.entity_ground.specs.Parts.{ArePaired}
use Rattle.entity_ground.proofs.copies.copy_grounds.Given as goal

abbrev pub invariant-loop-copy : goal.invariant-loop-copy
invariant-loop-copy l = AllZip (ArePaired l.relations) (take l.copy-index l.copies) l.all
