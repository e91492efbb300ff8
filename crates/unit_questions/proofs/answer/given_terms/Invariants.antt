-- The terms so far, in front of the others, are the whole.
use Rattle.std.proofs.Common.{◌≡◌, ◌++◌, drop, map}
use Rattle.unit_questions.specs.Substituted.{given_term, given_value}
use Rattle.unit_questions.proofs.answer.given_terms.Given as goal

abbrev pub invariant-loop-term : goal.invariant-loop-term
invariant-loop-term l =
    l.list ++ map (given_term (given_value l.head l.tuple)) (drop l.term-index l.terms)
    ≡ map (given_term (given_value l.head l.tuple)) l.terms
