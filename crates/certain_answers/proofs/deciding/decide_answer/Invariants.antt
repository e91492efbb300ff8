use Rattle.certain_answers.proofs.Going.{IsKept}
use Rattle.certain_answers.proofs.deciding.decide_answer.Given as goal

abbrev pub invariant-loop-outcome : goal.invariant-loop-outcome
invariant-loop-outcome g l = IsKept l.spec l.query l.place l.initial.search l.search l.initial.units l.units

abbrev pub decreases-loop-outcome : goal.decreases-loop-outcome
decreases-loop-outcome g l = l.units
