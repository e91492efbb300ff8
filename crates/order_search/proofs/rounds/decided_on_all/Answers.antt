use Rattle.std.proofs.Common.{◌∙◌}
use Rattle.order_search.proofs.Growing.{added_then}
use Rattle.order_search.proofs.rounds.decided_on_all.Goals as goal

pub loop-outcome-preserved : goal.loop-outcome-preserved
loop-outcome-preserved g c =
    record {
      held = c.round.ensures.held;
      scope = c.round.ensures.scope ∙ c.loop-outcome.invariant.scope;
      added = added_then c.args.progress.now.solver c.loop-outcome.progress.solver c.round.new.progress.solver
          c.loop-outcome.invariant.added c.round.ensures.added;
      tied = λ p h. c.round.ensures.tied p (c.loop-outcome.invariant.tied p h);
      units = c.round.ensures.units ∙ c.loop-outcome.invariant.units;
    }

pub returns-in-Ok-Some-clause-tied : goal.returns-in-Ok-Some-clause-tied
returns-in-Ok-Some-clause-tied g c = λ p h. c.round.ensures.tied p (c.loop-outcome.invariant.tied p h)

pub returns-in-Err-clause-tied : goal.returns-in-Err-clause-tied
returns-in-Err-clause-tied g c = λ p h. c.round.ensures.tied p (c.loop-outcome.invariant.tied p h)
