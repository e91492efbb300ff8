use Rattle.std.proofs.Common.{◌≡◌, ◌≤◌, length, slice_index}
use Rattle.horn_closure.proofs.LookFacts.{IsWalked}
use Rattle.horn_closure.proofs.looks.look_at_uses.Given as goal

abbrev pub invariant-loop-at : goal.invariant-loop-at
invariant-loop-at l = record {
  cells : l.known.cells ≡ l.fn.known.cells;
  within : l.at ≤ length l.uses.uses.items;
  walked : IsWalked l.clauses.premises l.clauses.conclusions.items l.uses.uses.items
      (slice_index l.uses.lasts.items l.slot) l.at l.fn.known.derived
      l.known.derived;
}

abbrev pub decreases-loop-at : goal.decreases-loop-at
decreases-loop-at l = l.at
