use Rattle.search_state.proofs.Filling.{AreIn}
use Rattle.search_state.proofs.steps.filled.Given as goal

abbrev pub invariant-loop-place : goal.invariant-loop-place
invariant-loop-place l = AreIn l.vars l.steps l.place l.search.arena l.search.trail l.search.refuted
