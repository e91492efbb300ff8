use Rattle.std.proofs.Common.{◌<◌, ℕ, length, slice_index}
use Rattle.completion_build.specs.Contests.{Beats}
use Rattle.completion_build.proofs.cycle.find_rise.Given as goal

abbrev pub invariant-loop-first : goal.invariant-loop-first
invariant-loop-first l = (i j : ℕ) → i < l.first → j < length l.tournament.rows → Beats l.tournament i j
    → slice_index l.counts j < slice_index l.counts i
