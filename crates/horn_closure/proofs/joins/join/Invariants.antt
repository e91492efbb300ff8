use Rattle.std.proofs.Common.{◌≡◌}
use Rattle.horn_closure.specs.Steps.{AreJoined}
use Rattle.horn_closure.proofs.joins.join.Given as goal

abbrev pub invariant-loop-other : goal.invariant-loop-other
invariant-loop-other l = record {
  cells : l.known.cells ≡ l.fn.known.cells;
  joined : AreJoined l.cell l.place l.other l.fn.known.derived l.known.derived;
}
