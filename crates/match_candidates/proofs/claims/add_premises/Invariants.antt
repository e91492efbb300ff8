use Rattle.std.proofs.Common.{◌≡◌, ◌++◌, drop}
use Rattle.match_candidates.proofs.claims.add_premises.Given as goal

abbrev pub invariant-loop-premise : goal.invariant-loop-premise
invariant-loop-premise l = l.premises ++ drop l.premise-index l.more ≡ l.initial.premises ++ l.more
