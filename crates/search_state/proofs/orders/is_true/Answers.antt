use Rattle.std.proofs.Common.{◌∙◌, Some, ap}
use Rattle.watch_propagate.proofs.WalkLits.{never_both}
use Rattle.search_state.proofs.orders.is_true.Goals as goal

pub returns-in-Some-false-clause-not_true : goal.returns-in-Some-false-clause-not_true
returns-in-Some-false-clause-not_true c =
    let is_false = c.truth.ensures.fails (c.in-Some-false.is ∙ ap Some c.in-Some-false.field-0-test) in
    λ e holds. never_both c.args.trail.now c.are_entries.ensures c.args.lit holds is_false
