use Rattle.std.proofs.Common.{All, List, subst, sym}
use Rattle.possible_values.specs.Steps.{IsCandidate}
use Rattle.possible_values.specs.declared.candidates.Candidate.{Candidate}
use Rattle.possible_values.proofs.Listed.{are_candidates}
use Rattle.possible_values.proofs.finding.of_completions.Goals as goal

pub denials-requires-clause-candidates : goal.denials-requires-clause-candidates
denials-requires-clause-candidates g c =
    subst (λ (l : List Candidate). All (IsCandidate c.args.spec.now.relations c.args.question.now) l) (sym c.as_slice.ensures)
    (are_candidates c.args.spec.now.relations c.args.question.now c.args.candidates c.requires.question c.requires.candidates)
