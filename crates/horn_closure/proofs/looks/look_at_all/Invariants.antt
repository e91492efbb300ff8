use Rattle.std.proofs.Common.{◌≡◌}
use Rattle.horn_closure.specs.Steps.{AreLookedAt}
use Rattle.horn_closure.proofs.looks.look_at_all.Given as goal

abbrev pub invariant-loop-clause : goal.invariant-loop-clause
invariant-loop-clause l = record {
  cells : l.known.cells ≡ l.fn.known.cells;
  looked : AreLookedAt l.clauses.premises l.clauses.conclusions.items l.clause l.fn.known.derived l.known.derived;
}
