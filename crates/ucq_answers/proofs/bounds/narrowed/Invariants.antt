use Rattle.ucq_answers.specs.Lookups.{IsNarrowed}
use Rattle.ucq_answers.proofs.bounds.narrowed.Given as goal

abbrev pub invariant-loop-test : goal.invariant-loop-test
invariant-loop-test l = IsNarrowed l.index.tuples l.index.place l.tests l.var l.values l.ents
