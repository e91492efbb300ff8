use Rattle.std.proofs.Common.{◌≡◌, take}
use Rattle.horn_closure.specs.Steps.{AreGiven}
use Rattle.horn_closure.proofs.closing.add_facts.Given as goal

abbrev pub invariant-loop-slot : goal.invariant-loop-slot
invariant-loop-slot l = record {
  cells : l.known.cells ≡ l.fn.known.cells;
  given : AreGiven (take l.slot-index l.facts) l.fn.known.derived l.known.derived;
}
