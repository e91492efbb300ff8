-- Each candidate of a question is one that it may have.
use Rattle.std.proofs.Common.{List, All, Contains, refl, subst, sym}
use Rattle.std.proofs.lemmas.List.Elements.{All-nil}
use Rattle.currency_base.specs.declared.ids.RelId.{RelId}
use Rattle.match_candidates.specs.Matches.{IsMatch}
use Rattle.match_premises.specs.declared.premise.Premise.{Premise}
use Rattle.posed_facts.specs.Facts.{IsPlaced}
use Rattle.query_model.specs.declared.query.Query.{Query}
use Rattle.spec_model.specs.Queries.{IsQueryOn}
use Rattle.spec_model.specs.Questions.{IsAskedPair, IsQuestionOn}
use Rattle.spec_model.specs.declared.question.Question.{Question}
use Rattle.spec_model.specs.declared.question.Question.TheVariants as asked
use Rattle.spec_model.specs.declared.relation.Relation.{Relation}
use Rattle.possible_values.specs.Candidates.{AreCandidates, AreQueryMatches, AreValues}
use Rattle.possible_values.specs.Steps.{IsCandidate}
use Rattle.possible_values.specs.declared.candidates.Candidate.{Candidate}
use Rattle.possible_values.specs.declared.candidates.Candidate.TheVariants as candidate
use Rattle.possible_values.proofs.Lists.{all_made, each_has, item_has}

-- values are
value_candidates : (relations : List Relation) (rels : List RelId) (list : List Candidate) → AreValues relations rels list
    → All (IsCandidate relations (asked.Same rels)) list
value_candidates relations rels list are =
    subst (All (IsCandidate relations (asked.Same rels))) (sym are.are)
    (all_made (λ p. candidate.Value p) (IsPlaced relations) (IsCandidate relations (asked.Same rels)) are.claims
    (λ p placed. placed)
    (each_has (IsPlaced relations) are.claims
    (λ k p at. (item_has (λ (o : Premise). IsPlaced relations o × Contains rels o.rel) are.claims are.are_claims.each k p at).0)))

-- matches are
match_candidates : (relations : List Relation) (query : Query) (list : List Candidate) → IsQueryOn relations query
    → AreQueryMatches relations query list → All (IsCandidate relations (asked.Answers query)) list
match_candidates relations query list on are =
    subst (All (IsCandidate relations (asked.Answers query))) (sym are.are)
    (all_made (λ m. candidate.Match m) (IsMatch relations query) (IsCandidate relations (asked.Answers query)) are.matches
    (λ m is. record { query = query; is_query = refl; on = on; is_match = is }) are.are_matches.each)

-- all are
pub are_candidates : (relations : List Relation) (q : Question) (list : List Candidate) → IsQuestionOn relations q
    → AreCandidates relations q list → All (IsCandidate relations q) list
are_candidates relations asked.Consistent list on are =
    subst (All (IsCandidate relations asked.Consistent)) (sym are) (All-nil (IsCandidate relations asked.Consistent))
are_candidates relations (asked.Certain pairs) list on are =
    subst (All (IsCandidate relations (asked.Certain pairs))) (sym are)
    (all_made (λ p. candidate.Pair p) (IsAskedPair relations) (IsCandidate relations (asked.Certain pairs)) pairs
    (λ p is. is) on)
are_candidates relations (asked.Same rels) list on are = value_candidates relations rels list are
are_candidates relations (asked.Answers query) list on are = match_candidates relations query list on are
