use Rattle.std.proofs.Common.{All, Contains, take}
use Rattle.search_state.proofs.leaving.is_part.Given as goal

abbrev pub invariant-loop-lit : goal.invariant-loop-lit
invariant-loop-lit l = All (Contains l.of) (take l.lit-index l.lits)
