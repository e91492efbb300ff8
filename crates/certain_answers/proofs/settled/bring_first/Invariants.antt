use Rattle.std.proofs.Common.{◌≡◌}
use Rattle.order_search.specs.Searches.{HasGone}
use Rattle.refutation_log.specs.Counted.{counted_steps}
use Rattle.certain_answers.proofs.settled.bring_first.Given as goal

abbrev pub invariant-loop-at : goal.invariant-loop-at
invariant-loop-at g l = HasGone l.initial.search l.search × (counted_steps l.search.log.steps ≡ counted_steps
    l.initial.search.log.steps)
