-- Candidates that can be listed are not too many.
use Rattle.std.proofs.Common.{◌≡◌, ℕ, List, Some, arith, slice_get, subst}
use Rattle.std.proofs.lemmas.Option.{get_or_from_slice_get, slice_get_within}
use Rattle.match_candidates.specs.Matches.{IsMatch}
use Rattle.query_model.specs.declared.query.Match.{Match}
use Rattle.spec_model.specs.declared.question.Question.{Question}
use Rattle.spec_model.specs.declared.question.Question.TheVariants as asked
use Rattle.spec_model.specs.declared.relation.Relation.{Relation}
use Rattle.possible_values.specs.Candidates.{AreCandidates, HasTooManyCandidates}
use Rattle.possible_values.specs.declared.candidates.Candidate.{Candidate}
use Rattle.possible_values.proofs.Counting.{no_longer}

pub few_or_many : (relations : List Relation) (q : Question) (list : List Candidate) → AreCandidates relations q list
    → HasTooManyCandidates relations q → ⊥
few_or_many relations asked.Consistent list are many = many
few_or_many relations (asked.Certain pairs) list are many = many
few_or_many relations (asked.Same rels) list are many = many
few_or_many relations (asked.Answers query) list are many =
    let longer = no_longer many.some are.matches many.once (λ k m at. are.are_matches.all m (is_match k m at)) in
    omega (arith, longer, many.more, are.few)
  where
    is_match : (k : ℕ) (m : Match) → slice_get many.some k ≡ Some m → IsMatch relations query m
    is_match k m at =
        subst (IsMatch relations query) (get_or_from_slice_get many.some k m m at)
        (many.each k m (slice_get_within many.some k m at))
