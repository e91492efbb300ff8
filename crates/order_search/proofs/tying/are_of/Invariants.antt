use Rattle.std.proofs.Common.{take}
use Rattle.order_search.specs.Tied.{LieIn}
use Rattle.order_search.proofs.tying.are_of.Given as goal

abbrev pub invariant-loop-lit : goal.invariant-loop-lit
invariant-loop-lit l = LieIn l.parts l.part l.var (take l.lit-index l.lits)
