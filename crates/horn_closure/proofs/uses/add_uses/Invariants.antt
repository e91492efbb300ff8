use Rattle.std.proofs.Common.{◌≡◌, length, take}
use Rattle.horn_closure.specs.Steps.{IsUseOfEach}
use Rattle.horn_closure.proofs.uses.add_uses.Given as goal

abbrev pub invariant-loop-slot : goal.invariant-loop-slot
invariant-loop-slot l = record {
  cells : length l.uses.lasts.items ≡ length l.fn.uses.lasts.items;
  each : IsUseOfEach l.clause (take l.slot-index l.premises) l.fn.uses.lasts.items l.fn.uses.uses.items
      l.uses.lasts.items l.uses.uses.items;
}
