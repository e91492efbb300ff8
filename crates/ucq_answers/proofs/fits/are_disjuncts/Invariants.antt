use Rattle.std.proofs.Common.{take}
use Rattle.std.specs.List.{All}
use Rattle.query_model.specs.Fitting.{IsDisjunct}
use Rattle.ucq_answers.proofs.fits.are_disjuncts.Given as goal

abbrev pub invariant-loop-disjunct : goal.invariant-loop-disjunct
invariant-loop-disjunct l = All IsDisjunct (take l.disjunct-index l.disjuncts)
