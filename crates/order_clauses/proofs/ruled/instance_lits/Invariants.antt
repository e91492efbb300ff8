use Rattle.std.proofs.Common.{map, take}
use Rattle.order_literals.specs.Said.{not_before}
use Rattle.order_clauses.specs.Added.{Say}
use Rattle.order_clauses.specs.Subject.{variables}
use Rattle.order_clauses.proofs.ruled.instance_lits.Given as goal

abbrev pub invariant-loop-pair : goal.invariant-loop-pair
invariant-loop-pair l = Say (variables l.sayings) l.lits.items (map (λ p. not_before l.rel p.attr p.earlier p.later)
    (take l.pair-index l.pair-items))
