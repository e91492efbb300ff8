use Rattle.std.proofs.Common.{◌≡◌, ◌++◌, map, drop}
use Rattle.log_axioms.specs.Axioms.{not_before}
use Rattle.log_axioms.proofs.rules.add_premises.Given as goal

abbrev pub invariant-loop-pair : goal.invariant-loop-pair
invariant-loop-pair l =
    l.clause ++ map (λ p. not_before l.rel p.attr p.earlier p.later) (drop l.pair-index l.premises)
    ≡ l.initial.clause ++ map (λ p. not_before l.rel p.attr p.earlier p.later) l.premises
