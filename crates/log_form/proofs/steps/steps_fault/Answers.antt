use Rattle.std.proofs.Common.{◌∙◌, sym}
use Rattle.log_form.proofs.Places.{steps_more, steps_stop}
use Rattle.log_form.proofs.steps.steps_fault.Goals as goal

pub returns-then-not-are_within : goal.returns-then-not-are_within
returns-then-not-are_within c =
    sym (steps_stop c.args.statements c.args.steps.now c.loop-place.place c.lits.result.now c.lits.ensures
    (sym c.are_within.ensures ∙ c.if-not-are_within.true)) ∙ c.loop-place.invariant

pub loop-place-preserved : goal.loop-place-preserved
loop-place-preserved c =
    sym (steps_more c.args.statements c.args.steps.now c.loop-place.place c.lits.result.now c.lits.ensures
    (sym c.are_within.ensures ∙ c.if-not-are_within.false)) ∙ c.loop-place.invariant
