use Rattle.std.proofs.Common.{◌∙◌}
use Rattle.order_search.proofs.Growing.{added_then}
use Rattle.order_search.proofs.linked.bring_lists.Goals as goal

pub loop-place-preserved : goal.loop-place-preserved
loop-place-preserved g c = record {
  held = c.bring_list.ensures.held;
  added = added_then c.args.progress.now.solver c.loop-place.progress.solver c.bring_list.new.progress.solver
      c.loop-place.invariant.added
      c.bring_list.ensures.added;
  tied = λ p h. c.bring_list.ensures.tied p (c.loop-place.invariant.tied p h);
  units = c.bring_list.ensures.units ∙ c.loop-place.invariant.units;
}

pub returns-in-Err-clause-tied : goal.returns-in-Err-clause-tied
returns-in-Err-clause-tied g c = λ p h. c.bring_list.ensures.tied p (c.loop-place.invariant.tied p h)
