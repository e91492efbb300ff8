-- What is found of the candidates of a question.
use Rattle.std.specs.Prelude.{◌≡◌, ◌⊎◌, ◌<◌, ℕ, List, All, Some, length, slice_get}
pub use Rattle.decided_facts.specs.Decided.{HasTooMany, IsSpent}
use Rattle.posed_facts.specs.Facts.{IsPosable}
use Rattle.posed_facts.specs.Questions.{fact_question}
use Rattle.posed_facts.specs.declared.fact.Fact.{Fact}
use Rattle.report_model.specs.declared.report.Report.{Report}
use Rattle.report_model.specs.declared.verdict.Verdict.TheVariants as verdict
use Rattle.report_verify.specs.Right.{EachConsistent}
use Rattle.report_verify.specs.Shown.{ShowsVerdict}
use Rattle.report_write.specs.Writable.{IsWritableReport}
use Rattle.decided_facts.specs.declared.shown.Shown.{Shown}
use Rattle.decided_facts.specs.declared.shown.Shown.TheVariants as shown
use Rattle.spec_model.specs.Completion.{Rankings}
use Rattle.spec_model.specs.Consistent.{IsConsistent, IsSatisfiable}
use Rattle.spec_model.specs.Spec.{Spec}
use Rattle.spec_model.specs.declared.question.Question.{Question}
use Rattle.spec_model.specs.declared.question.Question.TheVariants as asked
use Rattle.possible_values.specs.Candidates.{AreCandidates, CandidateHolds, HasTooManyCandidates, IsDenialOf}
use Rattle.possible_values.specs.declared.candidates.Candidate.{Candidate}
use Rattle.possible_values.specs.declared.found.Found.{Found}
use Rattle.possible_values.specs.declared.found.Possible.{Possible}
use Rattle.possible_values.specs.declared.found.Possible.TheVariants as possible
use Rattle.possible_values.specs.declared.found.Posed.{Posed}
use Rattle.possible_values.specs.declared.found.Posed.TheVariants as posed

-- ---- findings

-- a candidate holds in the listed completion of a place
pub record HoldsAt (s : Spec) (q : Question) (completions : List Rankings) (one : Candidate) (place : ℕ) : Type 0 where
  pub completion : Rankings
  pub is_there : slice_get completions place ≡ Some completion
  pub holds : CandidateHolds s.relations q one completion

-- a candidate is possible: it holds in a listed completion; or impossible: it holds in no consistent one
abbrev pub IsFinding : Spec → Question → List Rankings → Candidate → Shown → Type 0
IsFinding s q completions one (shown.FailsIn place) = HoldsAt s q completions one place
IsFinding s q completions one shown.Holds = EachConsistent s (λ c. CandidateHolds s.relations q one c → ⊥)

-- the candidates, each with the fact that it does not hold, which can be asked, and with its finding; listed completions are
-- consistent, and there is one
pub record AreFindings (s : Spec) (q : Question) (f : Found) : Type 0 where
  pub candidates : AreCandidates s.relations q f.candidates
  pub consistent : All (IsConsistent s) f.completions
  pub some : 0 < length f.completions
  pub posable : All (IsPosable s.relations) f.facts
  pub facts_per_candidate : length f.facts ≡ length f.candidates
  pub shown_per_candidate : length f.shown ≡ length f.candidates
  pub denials : (k : ℕ) (one : Candidate) (d : Fact) → slice_get f.candidates k ≡ Some one → slice_get f.facts k ≡ Some d
      → IsDenialOf s.relations q one d
  pub findings : (k : ℕ) (one : Candidate) (x : Shown) → slice_get f.candidates k ≡ Some one → slice_get f.shown k ≡ Some x
      → IsFinding s q f.completions one x

-- ---- what is found

-- a report shows that there is no consistent completion, for this question or whether there is one
pub record IsShownInconsistent (s : Spec) (q : Question) (report : Report) : Type 0 where
  pub verdict_is : report.verdict ≡ verdict.Inconsistent
  pub shows : ShowsVerdict s q report ⊎ ShowsVerdict s asked.Consistent report
  pub none : IsSatisfiable s → ⊥
  pub writable : IsWritableReport s.relations report

-- the question on which a budget was spent
abbrev pub posed_question : Spec → Posed → Question
posed_question s posed.Consistent = asked.Consistent
posed_question s (posed.Fact f) = fact_question s.relations f

-- its fact is one of which it can be asked whether it holds
abbrev pub IsPosed : Spec → Posed → Type 0
IsPosed s posed.Consistent = Unit {0}
IsPosed s (posed.Fact f) = IsPosable s.relations f

-- the candidates of a question can be listed, since they are not too many
abbrev pub HasFewCandidates : Spec → Question → Type 0
HasFewCandidates s q = (list : List Candidate) × AreCandidates s.relations q list

abbrev pub IsPossible : Spec → Question → ℕ → Possible → Type 0
IsPossible s q budget (possible.Inconsistent report) = HasFewCandidates s q × IsShownInconsistent s q report
IsPossible s q budget (possible.Found f) = AreFindings s q f
IsPossible s q budget (possible.Undecided p report) =
    HasFewCandidates s q × IsPosed s p × IsSpent s (posed_question s p) budget report
IsPossible s q budget possible.TooMany = HasTooManyCandidates s.relations q
