use Rattle.std.proofs.Common.{take}
use Rattle.std.specs.List.{AllZip}
use Rattle.ucq_answers.specs.Found.{FitsAt}
use Rattle.ucq_answers.proofs.matching.entities_of.Given as goal

abbrev pub invariant-loop-atom : goal.invariant-loop-atom
invariant-loop-atom l = AllZip (FitsAt l.relations l.values) (take l.atom-index l.atoms) l.entities
