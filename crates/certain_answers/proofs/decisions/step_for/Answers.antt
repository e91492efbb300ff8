use Rattle.certain_answers.proofs.decisions.step_for.Goals as goal

pub returns-in-Ok-Model-clause-outcome : goal.returns-in-Ok-Model-clause-outcome
returns-in-Ok-Model-clause-outcome g c = c.refuted.ensures.outcome c.decide_answer.new.units
