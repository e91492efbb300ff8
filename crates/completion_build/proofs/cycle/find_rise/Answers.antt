use Rattle.std.proofs.Common.{◌<◌, ℕ, length, slice_index, arith}
use borrow.Author.Count.{below_more}
use Rattle.completion_build.specs.Contests.{Beats}
use Rattle.completion_build.proofs.cycle.find_rise.Goals as goal

pub loop-first-preserved : goal.loop-first-preserved
loop-first-preserved c =
    let t = c.args.tournament.now in
    let counts = c.args.counts.now in
    λ i j below_i below_j.
    below_more (λ (i : ℕ). (j : ℕ) → j < length t.rows → Beats t i j → slice_index counts j < slice_index counts i)
    c.loop-first.first
    (λ i below j below_j. c.loop-first.invariant i j below below_j) c.in_default.ensures.none i below_i j below_j

pub returns-clause-none : goal.returns-clause-none
returns-clause-none c = λ i j below_i below_j. c.loop-first.invariant i j (omega (arith, c.len-first-end.ensures)) below_j
