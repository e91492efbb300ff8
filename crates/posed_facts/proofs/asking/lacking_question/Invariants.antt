-- The disjuncts so far, in front of the others, are the whole.
use Rattle.std.proofs.Common.{◌≡◌, ◌++◌, drop, map}
use Rattle.posed_facts.specs.Questions.{other_disjunct}
use Rattle.posed_facts.proofs.asking.lacking_question.Given as goal

abbrev pub invariant-loop-claim : goal.invariant-loop-claim
invariant-loop-claim l =
    l.disjuncts ++ map (other_disjunct l.spec.relations) (drop l.claim-index l.claims)
    ≡ map (other_disjunct l.spec.relations) l.claims
