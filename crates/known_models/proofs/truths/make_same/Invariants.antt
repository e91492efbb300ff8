use Rattle.std.proofs.Common.{Some, map, take}
use Rattle.known_models.specs.Changes.{Takes}
use Rattle.known_models.proofs.truths.make_same.Given as goal

abbrev pub invariant-loop-var : goal.invariant-loop-var
invariant-loop-var l = Takes (take l.var-index l.vars) (map Some l.other) l.initial.truths l.truths
