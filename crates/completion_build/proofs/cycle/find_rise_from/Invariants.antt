use Rattle.std.proofs.Common.{◌<◌, ℕ, slice_index}
use Rattle.completion_build.specs.Contests.{Beats}
use Rattle.completion_build.proofs.cycle.find_rise_from.Given as goal

abbrev pub invariant-loop-second : goal.invariant-loop-second
invariant-loop-second l = (j : ℕ) → j < l.second → Beats l.tournament l.first j → slice_index l.counts j <
    slice_index l.counts l.first
