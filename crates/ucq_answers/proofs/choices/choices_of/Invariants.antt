use Rattle.std.proofs.Common.{take}
use Rattle.std.specs.List.{AllZip}
use Rattle.ucq_answers.specs.Found.{AllFitAt}
use Rattle.ucq_answers.proofs.choices.choices_of.Given as goal

abbrev pub invariant-loop-atom : goal.invariant-loop-atom
invariant-loop-atom l = AllZip (AllFitAt l.relations l.values) (take l.atom-index l.atoms) l.choices.items
