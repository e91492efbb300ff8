use Rattle.forced_closure.specs.Clauses.{Adds, OfCopies}
use Rattle.forced_closure.proofs.copied.add_copies.Given as goal

abbrev pub invariant-loop-copy : goal.invariant-loop-copy
invariant-loop-copy l = Adds l.subject l.initial.gathered l.gathered (OfCopies l.subject l.copy)
