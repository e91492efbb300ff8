use Rattle.std.proofs.Common.{◌∙◌, Some, ap}
use Rattle.watch_propagate.proofs.WalkLits.{never_both}
use Rattle.watch_propagate.proofs.truths.is_false.Goals as goal

pub returns-in-Some-true-clause-not_false : goal.returns-in-Some-true-clause-not_false
returns-in-Some-true-clause-not_false c =
    let is_true = c.truth.ensures.holds (c.in-Some-true.is ∙ ap Some c.in-Some-true.field-0-test) in
    λ e n. never_both c.args.trail.now c.are_entries.ensures c.args.lit is_true n
