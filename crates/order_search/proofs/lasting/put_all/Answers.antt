use Rattle.std.proofs.Common.{◌∙◌, length, subst, sym}
use Rattle.refutation_log.specs.Steps.{clauses_of, step_of}
use Rattle.search_state.specs.States.{Frame}
use Rattle.order_search.specs.Lasting.{IsNextStep}
use Rattle.order_search.proofs.Growing.{added_then, take_one}
use Rattle.order_search.proofs.Lasts.{keeps_then, next_step, tied_then}
use Rattle.order_search.proofs.lasting.put_all.Goals as goal

pub put-requires : goal.put-requires
put-requires g c =
    let old = c.args.solver.now in
    let now = c.loop-place.solver in
    let taken = step_of c.get.result in
    subst (λ (frame : Frame). IsNextStep (length frame.statements) (clauses_of now.steps) taken)
    (sym c.loop-place.invariant.added.frame)
    (next_step (length old.frame.statements) old.steps c.args.steps.now now.steps c.loop-place.place taken c.requires
    c.loop-place.invariant.steps c.get.ensures)

pub loop-place-preserved : goal.loop-place-preserved
loop-place-preserved g c =
    let old = c.args.solver.now in
    let now = c.loop-place.solver in
    let new = c.put.new.solver in
    let were = c.loop-place.invariant in
    record {
      keeps = keeps_then old now new c.args.steps.now c.loop-place.place (step_of c.get.result) c.get.ensures were.keeps
          c.put.ensures.keeps;
      tied = tied_then old now new were.tied c.put.ensures.tied;
      scope = c.put.ensures.scope ∙ were.scope;
      added = added_then old now new were.added c.put.ensures.added;
      units = c.put.ensures.units ∙ were.units;
      steps = take_one old.steps c.args.steps.now now.steps new.steps c.loop-place.place (step_of c.get.result) were.steps
          c.in-Ok.ensures.ok c.get.ensures;
    }

pub returns-in-Err-clause-tied : goal.returns-in-Err-clause-tied
returns-in-Err-clause-tied g c =
    tied_then c.args.solver.now c.loop-place.solver c.put.new.solver c.loop-place.invariant.tied c.put.ensures.tied

pub returns-in-Err-clause-keeps : goal.returns-in-Err-clause-keeps
returns-in-Err-clause-keeps g c =
    keeps_then c.args.solver.now c.loop-place.solver c.put.new.solver c.args.steps.now c.loop-place.place
    (step_of c.get.result) c.get.ensures c.loop-place.invariant.keeps c.put.ensures.keeps
