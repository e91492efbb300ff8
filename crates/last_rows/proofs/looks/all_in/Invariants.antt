use Rattle.std.proofs.Common.{All, Contains, take}
use Rattle.last_rows.proofs.looks.all_in.Given as goal

abbrev pub invariant-loop-lit : goal.invariant-loop-lit
invariant-loop-lit l = All (Contains l.known) (take l.lit-index l.lits)
