use Rattle.std.proofs.Common.{take}
use Rattle.known_models.specs.Changes.{Takes}
use Rattle.known_models.proofs.truths.put_values.Given as goal

abbrev pub invariant-loop-var : goal.invariant-loop-var
invariant-loop-var l = Takes (take l.var-index l.vars) l.values.given l.initial.truths l.truths
