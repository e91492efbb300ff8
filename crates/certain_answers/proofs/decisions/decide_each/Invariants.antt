use Rattle.certain_answers.proofs.Going.{AreKept}
use Rattle.certain_answers.proofs.decisions.decide_each.Given as goal

abbrev pub invariant-loop-place : goal.invariant-loop-place
invariant-loop-place g l = AreKept l.spec l.query l.initial.search l.search l.initial.candidates l.candidates
    l.initial.units l.units l.place l.decisions
