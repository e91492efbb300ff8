use Rattle.std.proofs.Common.{◌≡◌, drop}
use Rattle.ucq_answers.specs.Partly.{bind_all}
use Rattle.ucq_answers.proofs.fitting.bound.Given as goal

abbrev pub invariant-loop-place : goal.invariant-loop-place
invariant-loop-place l = bind_all l.values (drop l.place l.vars) (drop l.place l.tuple) ≡ bind_all l.initial.values l.vars l.tuple
