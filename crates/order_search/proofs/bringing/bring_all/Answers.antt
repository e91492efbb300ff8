use Rattle.std.proofs.Common.{◌∙◌, arith}
use Rattle.order_search.proofs.Cycles.{in_all, in_more}
use Rattle.order_search.proofs.Growing.{added_then}
use Rattle.order_search.proofs.bringing.bring_all.Goals as goal

pub loop-place-preserved : goal.loop-place-preserved
loop-place-preserved g c = record {
  held = c.bring_in.ensures.held;
  added = added_then c.args.progress.now.solver c.loop-place.progress.solver c.bring_in.new.progress.solver
      c.loop-place.invariant.added
      c.bring_in.ensures.added;
  scope = c.bring_in.ensures.scope ∙ c.loop-place.invariant.scope;
  tied = λ p h. c.bring_in.ensures.tied p (c.loop-place.invariant.tied p h);
  units = c.bring_in.ensures.units ∙ c.loop-place.invariant.units;
  so_far = in_more c.args.subject.now c.args.cycles.now c.loop-place.place c.get-cycle.result.now c.args.progress.now.solver.steps
      c.args.progress.now.brought.items c.loop-place.progress.solver.steps c.loop-place.progress.brought.items
      c.bring_in.new.progress.solver.steps
      c.bring_in.new.progress.brought.items c.get-cycle.ensures c.loop-place.invariant.so_far
      c.bring_in.ensures.later c.in-Ok.ensures.brings;
}

pub returns-clause-fewer : goal.returns-clause-fewer
returns-clause-fewer g c =
    in_all c.args.subject.now c.args.cycles.now c.loop-place.place c.args.progress.now.solver.steps
    c.args.progress.now.brought.items
    c.loop-place.progress.solver.steps c.loop-place.progress.brought.items
    (omega (arith, c.loop-place-test.false, c.len-place-end.ensures))
    c.loop-place.invariant.so_far

pub returns-in-Err-clause-tied : goal.returns-in-Err-clause-tied
returns-in-Err-clause-tied g c = λ p h. c.bring_in.ensures.tied p (c.loop-place.invariant.tied p h)
