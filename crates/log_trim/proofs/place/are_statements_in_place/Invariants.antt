use Rattle.log_trim.specs.Place.{AreStatementsInPlace}
use Rattle.log_trim.proofs.place.are_statements_in_place.Given as goal

abbrev pub invariant-loop-place : goal.invariant-loop-place
invariant-loop-place l = AreStatementsInPlace l.answers l.place l.statements
