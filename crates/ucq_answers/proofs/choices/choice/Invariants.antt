use Rattle.std.proofs.Common.{take}
use Rattle.std.specs.List.{AllZip}
use Rattle.ucq_answers.specs.Found.{IsOneOf}
use Rattle.ucq_answers.proofs.choices.choice.Given as goal

abbrev pub invariant-loop-ents : goal.invariant-loop-ents
invariant-loop-ents l = AllZip IsOneOf (take l.ents-index l.choices) l.chosen
