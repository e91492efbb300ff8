use Rattle.std.proofs.Common.{take}
use Rattle.forced_closure.specs.Clauses.{AreSlots}
use Rattle.forced_closure.proofs.ruled.slots_of.Given as goal

abbrev pub invariant-loop-pair : goal.invariant-loop-pair
invariant-loop-pair l = AreSlots l.subject.layout l.rel.0 (take l.pair-index l.pairs) l.slots.items
