use Rattle.std.proofs.Common.{◌≡◌, length}
use Rattle.horn_closure.specs.Steps.{AreUsesUpTo}
use Rattle.horn_closure.proofs.uses.uses_of.Given as goal

abbrev pub invariant-loop-clause : goal.invariant-loop-clause
invariant-loop-clause l = record {
  cells : length l.uses.lasts.items ≡ l.cells;
  uses : AreUsesUpTo l.clauses.premises l.clause l.uses.lasts.items l.uses.uses.items;
}
