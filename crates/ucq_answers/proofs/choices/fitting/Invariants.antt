use Rattle.ucq_answers.specs.Found.{AllFitAt}
use Rattle.ucq_answers.proofs.choices.fitting.Given as goal

abbrev pub invariant-loop-ent : goal.invariant-loop-ent
invariant-loop-ent l = AllFitAt l.relations l.values l.atom l.ents
