use Rattle.std.proofs.Common.{◌≡◌, ◌++◌, map, drop}
use Rattle.log_axioms.specs.Axioms.{not_last}
use Rattle.log_axioms.proofs.matches.add_denied.Given as goal

abbrev pub invariant-loop-premise : goal.invariant-loop-premise
invariant-loop-premise l =
    l.clause ++ map (λ p. not_last p.rel p.attr p.row) (drop l.premise-index l.premises)
    ≡ l.initial.clause ++ map (λ p. not_last p.rel p.attr p.row) l.premises
