use Rattle.std.proofs.Common.{◌<◌, ◌∙◌, ap, length, refl, subst, sym, Contains, IfSome}
use Rattle.currency_base.specs.Literals.{var_of}
use Rattle.order_search.specs.Made.{IsMade}
use Rattle.order_search.specs.Tied.{scope_in}
use Rattle.order_search.specs.declared.parting.Parting.{Parting}
use Rattle.order_search.proofs.Growing.{added_then, same_added}
use Rattle.order_search.proofs.partwise.decide_focused.Goals as goal

pub loop-outcome-init : goal.loop-outcome-init
loop-outcome-init g c = record {
  held = c.requires.held;
  scope = refl;
  added = same_added c.args.progress.now.solver c.args.progress.now.solver refl refl;
  tied = c.requires.tied;
  units = refl;
  same = refl;
}

pub one_round-requires-clause-scope : goal.one_round-requires-clause-scope
one_round-requires-clause-scope g c =
    c.loop-outcome.invariant.scope ∙ c.requires.scope
    ∙ ap (λ (x : Parting). scope_in x c.args.part) (sym c.loop-outcome.invariant.same)

pub one_round-requires-clause-part : goal.one_round-requires-clause-part
one_round-requires-clause-part g c =
    subst (λ (x : Parting). c.args.part < length x.parts.parts) (sym c.loop-outcome.invariant.same) c.requires.part

pub one_round-requires-clause-goal : goal.one_round-requires-clause-goal
one_round-requires-clause-goal g c =
    subst (λ (x : Parting). IfSome c.args.goal (λ lit. Contains (scope_in x c.args.part) (var_of lit)))
    (sym c.loop-outcome.invariant.same) c.requires.goal

pub loop-outcome-preserved : goal.loop-outcome-preserved
loop-outcome-preserved g c =
    let told = rw c.in-Ok-Again.field-0-is at c.in-Ok-Again.ensures.comes in
    record {
      held = c.one_round.ensures.held;
      scope = c.one_round.ensures.scope ∙ c.loop-outcome.invariant.scope;
      added = added_then c.args.progress.now.solver c.loop-outcome.progress.solver c.one_round.new.progress.solver
          c.loop-outcome.invariant.added c.one_round.ensures.added;
      tied = c.one_round.ensures.tied;
      units = c.one_round.ensures.units ∙ c.loop-outcome.invariant.units;
      same = told.0 ∙ c.loop-outcome.invariant.same;
    }

pub loop-outcome-smaller : goal.loop-outcome-smaller
loop-outcome-smaller g c = let told = rw c.in-Ok-Again.field-0-is at c.in-Ok-Again.ensures.comes in told.1

pub returns-in-Ok-Done-clause-added : goal.returns-in-Ok-Done-clause-added
returns-in-Ok-Done-clause-added g c =
    added_then c.args.progress.now.solver c.loop-outcome.progress.solver c.one_round.new.progress.solver
    c.loop-outcome.invariant.added c.one_round.ensures.added

pub returns-in-Ok-Done-clause-made : goal.returns-in-Ok-Done-clause-made
returns-in-Ok-Done-clause-made g c =
    subst (λ (x : Parting). IsMade c.args.part c.args.goal x c.one_round.new.parting)
    c.loop-outcome.invariant.same (rw c.in-Ok-Done.field-0-is at c.in-Ok-Done.ensures.comes)

pub returns-in-Ok-Ended-clause-added : goal.returns-in-Ok-Ended-clause-added
returns-in-Ok-Ended-clause-added g c =
    added_then c.args.progress.now.solver c.loop-outcome.progress.solver c.one_round.new.progress.solver
    c.loop-outcome.invariant.added c.one_round.ensures.added

pub returns-in-Ok-Ended-clause-ended : goal.returns-in-Ok-Ended-clause-ended
returns-in-Ok-Ended-clause-ended g c = let told = rw c.in-Ok-Ended.field-0-is at c.in-Ok-Ended.ensures.comes in told.1

pub returns-in-Ok-Ended-clause-stays : goal.returns-in-Ok-Ended-clause-stays
returns-in-Ok-Ended-clause-stays g c =
    let told = rw c.in-Ok-Ended.field-0-is at c.in-Ok-Ended.ensures.comes in
    told.0 ∙ c.loop-outcome.invariant.same

pub returns-in-Err-clause-added : goal.returns-in-Err-clause-added
returns-in-Err-clause-added g c =
    added_then c.args.progress.now.solver c.loop-outcome.progress.solver c.one_round.new.progress.solver
    c.loop-outcome.invariant.added c.one_round.ensures.added

pub returns-in-Err-clause-err : goal.returns-in-Err-clause-err
returns-in-Err-clause-err g c = c.in-Err.ensures.err ∙ c.loop-outcome.invariant.same
