-- The disjuncts so far, in front of the others, are the whole.
use Rattle.std.proofs.Common.{◌≡◌, ◌++◌, drop}
use Rattle.unit_questions.specs.Substituted.{given_disjuncts}
use Rattle.unit_questions.proofs.answer.given_disjuncts.Given as goal

abbrev pub invariant-loop-disjunct : goal.invariant-loop-disjunct
invariant-loop-disjunct l =
    l.list ++ given_disjuncts l.tuple (drop l.disjunct-index l.disjuncts) ≡ given_disjuncts l.tuple l.disjuncts
