use Rattle.std.proofs.Common.{◌≡◌, ◌+◌, take}
use Rattle.refutation_log.specs.Counted.{counted_steps}
use Rattle.order_search.specs.Searches.{HasGone}
use Rattle.currency_ask.specs.Goals.{AreProved}
use Rattle.currency_ask.proofs.deciding.decide_all.Given as goal

abbrev pub invariant-loop-place : goal.invariant-loop-place
invariant-loop-place g l =
    HasGone l.initial.search l.search
    × (counted_steps l.search.log.steps + l.units ≡ counted_steps l.initial.search.log.steps + l.initial.units)
    × AreProved l.search (take l.place l.goals) l.steps
