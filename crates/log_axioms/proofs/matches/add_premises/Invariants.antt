use Rattle.std.proofs.Common.{◌≡◌, ◌++◌, drop}
use Rattle.log_axioms.proofs.matches.add_premises.Given as goal

abbrev pub invariant-loop-premise : goal.invariant-loop-premise
invariant-loop-premise l = l.premises ++ drop l.premise-index l.more ≡ l.initial.premises ++ l.more
