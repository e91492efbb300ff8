use Rattle.std.proofs.Common.{◌≡◌, ◌++◌, take}
use Rattle.log_replay.proofs.marks.Marks.mark_all.Given as goal

abbrev pub invariant-loop-lit : goal.invariant-loop-lit
invariant-loop-lit l = l.self ≡ l.initial.self ++ take l.lit-index l.lits
