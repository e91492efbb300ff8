use Rattle.std.proofs.Common.{ℕ, Contains, take}
use Rattle.horn_closure.specs.Least.{IsAmong}
use Rattle.horn_closure.proofs.looks.are_known.Given as goal

abbrev pub invariant-loop-slot : goal.invariant-loop-slot
invariant-loop-slot l = (slot : ℕ) → Contains (take l.slot-index l.slots) slot → IsAmong l.known.derived slot
