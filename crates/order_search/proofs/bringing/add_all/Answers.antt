use Rattle.std.proofs.Common.{◌∙◌}
use Rattle.refutation_log.specs.Steps.{step_of}
use Rattle.order_search.proofs.Growing.{take_one}
use Rattle.order_search.proofs.bringing.add_all.Goals as goal

pub loop-place-preserved : goal.loop-place-preserved
loop-place-preserved g c = record {
  frame = c.add.ensures.frame ∙ c.loop-place.invariant.frame;
  scope = c.add.ensures.scope ∙ c.loop-place.invariant.scope;
  steps = take_one c.args.solver.now.steps c.args.axioms.now c.loop-place.solver.steps c.add.new.solver.steps
      c.loop-place.place (step_of c.get.result)
      c.loop-place.invariant.steps c.in-Ok.ensures.ok c.get.ensures;
}
