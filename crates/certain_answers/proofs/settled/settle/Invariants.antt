use Rattle.std.proofs.Common.{◌≡◌}
use Rattle.order_search.specs.Searches.{HasGone}
use Rattle.refutation_log.specs.Counted.{counted_steps}
use Rattle.certain_answers.proofs.settled.settle.Given as goal

abbrev pub invariant-loop-place : goal.invariant-loop-place
invariant-loop-place g l = HasGone l.initial.search l.search × (counted_steps l.search.log.steps ≡ counted_steps
    l.initial.search.log.steps)
