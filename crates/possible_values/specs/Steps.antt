-- What is known on the way to what is found.
use Rattle.std.specs.Prelude.{◌≡◌, ◌<◌, ◌≤◌, ℕ, true, List, All, Some, length, slice_get}
use Rattle.decided_facts.specs.Decided.{IsAnswerWithin, IsSpent}
use Rattle.match_candidates.specs.Matches.{IsMatch}
use Rattle.posed_facts.specs.Facts.{IsPlaced, IsPosable}
use Rattle.posed_facts.specs.declared.fact.Fact.{Fact}
use Rattle.query_model.specs.declared.query.Match.{Match}
use Rattle.query_model.specs.declared.query.Query.{Query}
use Rattle.report_model.specs.Verdicts.{is_decided, kind_of}
use Rattle.report_model.specs.declared.report.Report.{Report}
use Rattle.report_verify.specs.Asked.{query_of}
use Rattle.report_verify.specs.Right.{IsRight}
use Rattle.report_verify.specs.Shown.{ShowsVerdict}
use Rattle.report_write.specs.Writable.{IsWritableReport}
use Rattle.spec_model.specs.Completion.{Rankings}
use Rattle.spec_model.specs.Consistent.{IsConsistent}
use Rattle.spec_model.specs.Queries.{IsQueryOn}
use Rattle.spec_model.specs.Questions.{IsAskedPair}
use Rattle.spec_model.specs.Spec.{Spec}
use Rattle.spec_model.specs.declared.question.Question.{Question}
use Rattle.spec_model.specs.declared.question.Question.TheVariants as asked
use Rattle.spec_model.specs.declared.relation.Relation.{Relation}
use Rattle.possible_values.specs.Candidates.{IsDenialOf}
use Rattle.possible_values.specs.Possible.{IsShownInconsistent}
use Rattle.possible_values.specs.declared.candidates.Candidate.{Candidate}
use Rattle.possible_values.specs.declared.candidates.Candidate.TheVariants as candidate
use Rattle.possible_values.specs.declared.known.Known.{Known}
use Rattle.possible_values.specs.declared.known.Known.TheVariants as known

-- ---- candidates

-- a match of the query that a question asks
pub record IsQueryMatch (relations : List Relation) (q : Question) (m : Match) : Type 0 where
  pub query : Query
  pub is_query : query_of q ≡ Some query
  pub on : IsQueryOn relations query
  pub is_match : IsMatch relations query m

-- a candidate is one that a question may have
abbrev pub IsCandidate : List Relation → Question → Candidate → Type 0
IsCandidate relations q (candidate.Pair p) = IsAskedPair relations p
IsCandidate relations q (candidate.Value p) = IsPlaced relations p
IsCandidate relations q (candidate.Match m) = IsQueryMatch relations q m

-- each relation has few attributes, as within the limits of a specification
abbrev pub HaveFewAttrs : List Relation → Type 0
HaveFewAttrs relations = All (λ r. length r.attrs ≤ 32) relations

-- ---- facts

-- facts that the first candidates, so many, do not hold
pub record AreDenials (relations : List Relation) (q : Question) (candidates : List Candidate) (count : ℕ)
    (facts : List Fact) : Type 0 where
  pub posable : All (IsPosable relations) facts
  pub as_many : length facts ≡ count
  pub each : (k : ℕ) (one : Candidate) (d : Fact) → slice_get candidates k ≡ Some one → slice_get facts k ≡ Some d
      → IsDenialOf relations q one d

-- ---- completions

-- what is told of the report that answers a question
pub record IsAnswerReport (s : Spec) (q : Question) (budget : ℕ) (report : Report) : Type 0 where
  pub shown : ShowsVerdict s q report
  pub right : is_decided (kind_of report.verdict) ≡ true → IsRight s q report.verdict
  pub writable : IsWritableReport s.relations report
  pub within : IsAnswerWithin s q budget report

-- some consistent completions
pub record AreSome (s : Spec) (completions : List Rankings) : Type 0 where
  pub consistent : All (IsConsistent s) completions
  pub some : 0 < length completions

-- what is known at first: that there is no consistent completion, as a report shows; or some; or that the budget is spent
abbrev pub IsKnown : Spec → Question → ℕ → Known → Type 0
IsKnown s q budget (known.Inconsistent report) = IsShownInconsistent s q report
IsKnown s q budget (known.Completions list) = AreSome s list
IsKnown s q budget (known.Open report) = IsSpent s asked.Consistent budget report
