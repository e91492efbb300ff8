use Rattle.std.proofs.Common.{◌≡◌, ◌-◌}
use Rattle.horn_closure.proofs.ClosedFacts.{IsClosedUpTo}
use Rattle.horn_closure.proofs.closing.close.Given as goal

abbrev pub invariant-loop-next : goal.invariant-loop-next
invariant-loop-next l = record {
  cells : l.known.cells ≡ l.fn.known.cells;
  closed : IsClosedUpTo l.sizes l.clauses.premises l.clauses.conclusions.items l.next l.fn.known.derived l.known.derived;
}

abbrev pub decreases-loop-next : goal.decreases-loop-next
decreases-loop-next l = l.known.cells - l.next
