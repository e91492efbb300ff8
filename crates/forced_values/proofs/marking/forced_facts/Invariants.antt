-- The facts so far are marked.
use Rattle.std.proofs.Common.{take}
use Rattle.decided_facts.specs.Steps.{AreMarked}
use Rattle.forced_values.proofs.marking.forced_facts.Given as goal

abbrev pub invariant-loop-fact : goal.invariant-loop-fact
invariant-loop-fact l = AreMarked l.spec (take l.fact-index l.facts) l.marks.items
