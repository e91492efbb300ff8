use Rattle.std.proofs.Common.{take}
use Rattle.conflict_analysis.specs.Steps.{MeetsAll}
use Rattle.conflict_analysis.proofs.clauses.meet_all.Given as goal

abbrev pub invariant-loop-lit : goal.invariant-loop-lit
invariant-loop-lit l = MeetsAll l.trail.entries l.bounds.base l.bounds.level (take l.lit-index l.lits) l.initial.found l.found
