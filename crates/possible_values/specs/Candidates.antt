-- The candidates of a question, and in which completions they hold.
use Rattle.std.specs.Prelude.{◌≡◌, ◌≤◌, ◌∷◌, ℕ, List, [], All, Some, length, map}
use Rattle.currency_base.specs.declared.ids.RelId.{RelId}
use Rattle.match_candidates.specs.Matches.{AreClaimsOf, AreMatches, HasMoreMatches}
use Rattle.match_premises.specs.declared.premise.Premise.{Premise}
use Rattle.posed_facts.specs.Facts.{IsCurrent}
use Rattle.posed_facts.specs.declared.fact.Fact.{Fact}
use Rattle.posed_facts.specs.declared.fact.Fact.TheVariants as fact
use Rattle.query_model.specs.declared.query.Match.{Match}
use Rattle.query_model.specs.declared.query.Query.{Query}
use Rattle.report_verify.specs.Asked.{query_of}
use Rattle.report_verify.specs.Right.{PairHolds}
use Rattle.spec_model.specs.Completion.{Rankings}
use Rattle.spec_model.specs.declared.question.Asked.{Asked}
use Rattle.spec_model.specs.declared.question.Question.{Question}
use Rattle.spec_model.specs.declared.question.Question.TheVariants as asked
use Rattle.spec_model.specs.declared.relation.Relation.{Relation}
use Rattle.value_candidates.specs.Claims.{AreValueClaims}
use Rattle.possible_values.specs.declared.candidates.Candidate.{Candidate}
use Rattle.possible_values.specs.declared.candidates.Candidate.TheVariants as candidate

-- ---- which they are

-- the most candidates of a query
abbrev pub most_matches : ℕ
most_matches = 1000000

-- the values of asked relations, by the claims that name them
pub record AreValues (relations : List Relation) (rels : List RelId) (list : List Candidate) : Type 0 where
  pub claims : List Premise
  pub are_claims : AreValueClaims relations rels claims
  pub are : list ≡ map (λ p. candidate.Value p) claims

-- the matches of a query, which are few enough
pub record AreQueryMatches (relations : List Relation) (query : Query) (list : List Candidate) : Type 0 where
  pub matches : List Match
  pub are_matches : AreMatches relations query matches
  pub few : length matches ≤ most_matches
  pub are : list ≡ map (λ m. candidate.Match m) matches

-- the candidates of a question
abbrev pub AreCandidates : List Relation → Question → List Candidate → Type 0
AreCandidates relations asked.Consistent list = list ≡ []
AreCandidates relations (asked.Certain pairs) list = list ≡ map (λ p. candidate.Pair p) pairs
AreCandidates relations (asked.Same rels) list = AreValues relations rels list
AreCandidates relations (asked.Answers query) list = AreQueryMatches relations query list

-- they are more than are gone through
abbrev pub HasTooManyCandidates : List Relation → Question → Type 0
HasTooManyCandidates relations (asked.Answers query) = HasMoreMatches relations query most_matches
HasTooManyCandidates relations q = ⊥

-- ---- where they hold

-- the current values that a match looks at are those of its claims
pub record MatchHolds (relations : List Relation) (query : Query) (m : Match) (c : Rankings) : Type 0 where
  pub claims : List Premise
  pub are_claims : AreClaimsOf relations query m claims
  pub hold : All (λ p. IsCurrent relations p c) claims

-- a match is one of the question's query
pub record IsMatched (relations : List Relation) (q : Question) (m : Match) (c : Rankings) : Type 0 where
  pub query : Query
  pub is_query : query_of q ≡ Some query
  pub holds : MatchHolds relations query m c

-- a candidate of a question holds in a completion
abbrev pub CandidateHolds : List Relation → Question → Candidate → Rankings → Type 0
CandidateHolds relations q (candidate.Pair p) c = PairHolds p c
CandidateHolds relations q (candidate.Value p) c = IsCurrent relations p c
CandidateHolds relations q (candidate.Match m) c = IsMatched relations q m c

-- ---- the fact that one does not hold

-- a pair turned round
abbrev pub turned : Asked → Asked
turned p = record p { pair = record p.pair { earlier = p.pair.later; later = p.pair.earlier } }

-- the claims of a match are those that the fact denies
pub record DeniesMatch (relations : List Relation) (q : Question) (m : Match) (f : Fact) : Type 0 where
  pub query : Query
  pub is_query : query_of q ≡ Some query
  pub claims : List Premise
  pub are_claims : AreClaimsOf relations query m claims
  pub denies : f ≡ fact.Lacks claims

-- the fact that a candidate does not hold
abbrev pub IsDenialOf : List Relation → Question → Candidate → Fact → Type 0
IsDenialOf relations q (candidate.Pair p) f = f ≡ fact.Before (turned p)
IsDenialOf relations q (candidate.Value p) f = f ≡ fact.Lacks (p ∷ [])
IsDenialOf relations q (candidate.Match m) f = DeniesMatch relations q m f
