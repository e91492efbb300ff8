use Rattle.forced_closure.specs.Clauses.{Adds, OfRules}
use Rattle.forced_closure.proofs.ruled.add_rules.Given as goal

abbrev pub invariant-loop-rule : goal.invariant-loop-rule
invariant-loop-rule l = Adds l.subject l.initial.gathered l.gathered (OfRules l.subject l.rule)
