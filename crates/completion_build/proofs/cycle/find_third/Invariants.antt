use Rattle.std.proofs.Common.{◌<◌, ℕ}
use Rattle.completion_build.specs.Contests.{Beats}
use Rattle.completion_build.proofs.cycle.find_third.Given as goal

abbrev pub invariant-loop-third : goal.invariant-loop-third
invariant-loop-third l = (k : ℕ) → k < l.third → Beats l.tournament l.second k → Beats l.tournament k l.first → ⊥
