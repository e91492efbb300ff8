use Rattle.forced_closure.specs.Clauses.{Adds, OfGrounds}
use Rattle.forced_closure.proofs.ruled.add_grounds.Given as goal

abbrev pub invariant-loop-ground : goal.invariant-loop-ground
invariant-loop-ground l = Adds l.subject l.initial.gathered l.gathered (OfGrounds l.rule l.ground)
