use Rattle.std.proofs.Common.{◌≡◌, take}
use Rattle.solver_guides.proofs.choices.copied.Given as goal

abbrev pub invariant-loop-var : goal.invariant-loop-var
invariant-loop-var l = l.truths.items ≡ take l.var l.start
