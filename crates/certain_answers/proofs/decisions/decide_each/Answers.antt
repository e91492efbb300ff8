use Rattle.std.proofs.Common.{◌∙◌, subst}
use Rattle.certain_answers.specs.Deciding.{TellsStep}
use Rattle.certain_answers.proofs.Going.{decided_more, gone_then}
use Rattle.certain_answers.proofs.decisions.decide_each.Goals as goal

pub loop-place-preserved : goal.loop-place-preserved
loop-place-preserved g c = record {
  gone = gone_then c.args.search.now c.loop-place.search c.step_for.new.search c.loop-place.invariant.gone
      c.step_for.ensures.gone;
  units = c.step_for.ensures.units ∙ c.loop-place.invariant.units;
  tuples = c.step_for.ensures.tuples ∙ c.loop-place.invariant.tuples;
  candidates = c.in-Ok-Decided.ensures.candidates;
  decided = decided_more c.loop-place.search c.step_for.new.search c.loop-place.candidates c.step_for.new.candidates
      c.loop-place.place c.loop-place.decisions
      c.push.new.self c.in-Ok-Decided.decision c.step_for.ensures.gone c.in-Ok-Decided.ensures.stays c.loop-place.invariant.decided
      (subst (TellsStep c.step_for.new.search c.step_for.new.candidates c.loop-place.place c.step_for.new.units)
      c.in-Ok-Decided.field-0-is
      c.in-Ok-Decided.ensures.outcome)
      c.in-Ok.ensures.ok;
}
