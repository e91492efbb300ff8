use Rattle.std.proofs.Common.{◌≡◌, drop}
use Rattle.ucq_answers.specs.Partly.{fit}
use Rattle.ucq_answers.proofs.fitting.fitted.Given as goal

abbrev pub invariant-loop-place : goal.invariant-loop-place
invariant-loop-place l = fit l.next (drop l.place l.terms) (drop l.place l.tuple) ≡ fit l.values l.terms l.tuple
