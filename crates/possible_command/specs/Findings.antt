-- What can be told of what is found, and how it is told, finding by finding.
use Rattle.std.specs.Prelude.{◌≡◌, ◌++◌, ℕ, List, All, Some, length, slice_get}
use Rattle.decided_facts.specs.Decided.{IsSpent}
use Rattle.posed_facts.specs.Facts.{IsPlaced, IsPosable}
use Rattle.posed_facts.specs.Questions.{fact_question}
use Rattle.posed_facts.specs.declared.fact.Fact.{Fact}
use Rattle.possible_values.specs.Possible.{IsPosed}
use Rattle.possible_values.specs.declared.candidates.Candidate.{Candidate}
use Rattle.possible_values.specs.declared.candidates.Candidate.TheVariants as candidate
use Rattle.possible_values.specs.declared.found.Found.{Found}
use Rattle.possible_values.specs.declared.found.Possible.{Possible}
use Rattle.possible_values.specs.declared.found.Possible.TheVariants as possible
use Rattle.report_model.specs.Writable.{IsWritableCompletion}
use Rattle.report_model.specs.declared.report.Report.{Report}
use Rattle.report_write.specs.Writable.{IsWritableReport}
use Rattle.decided_facts.specs.declared.shown.Shown.{Shown}
use Rattle.decided_facts.specs.declared.shown.Shown.TheVariants as shown
use Rattle.spec_model.specs.Questions.{IsAskedPair}
use Rattle.spec_model.specs.Spec.{Spec}
use Rattle.spec_model.specs.declared.relation.Relation.{Relation}
use Rattle.text_write.specs.Pieces.{Piece, text_of}
use Rattle.possible_command.specs.Possible.{AreCounters, IsCounter}
use Rattle.possible_command.specs.Text.{counter_text, impossible_pieces, possible_pieces, whole_findings}

-- ---- what can be told

-- what a candidate speaks of has names
abbrev pub IsNamed : List Relation → Candidate → Type 0
IsNamed relations (candidate.Pair p) = IsAskedPair relations p
IsNamed relations (candidate.Value p) = IsPlaced relations p
IsNamed relations (candidate.Match m) = Unit {0}

-- candidates that have names, each with a fact of which it can be asked whether it holds and with a finding, and completions that
-- can be written
pub record IsWritableFound (relations : List Relation) (f : Found) : Type 0 where
  pub candidates : All (IsNamed relations) f.candidates
  pub facts : All (IsPosable relations) f.facts
  pub completions : All (IsWritableCompletion relations) f.completions
  pub facts_per_candidate : length f.facts ≡ length f.candidates
  pub shown_per_candidate : length f.shown ≡ length f.candidates

-- what is found can be told
abbrev pub IsWritablePossible : Spec → Possible → Type 0
IsWritablePossible s (possible.Inconsistent report) = IsWritableReport s.relations report
IsWritablePossible s (possible.Found f) = IsWritableFound s.relations f
IsWritablePossible s (possible.Undecided p report) = IsPosed s p × IsWritableReport s.relations report
IsWritablePossible s possible.TooMany = Unit {0}

-- ---- how it is told

-- the line of a finding
abbrev pub finding_pieces : List Relation → Candidate → Shown → List Piece
finding_pieces relations one (shown.FailsIn place) = possible_pieces relations one place
finding_pieces relations one shown.Holds = impossible_pieces relations one

-- after this text the line of an impossible candidate is told, with the question for its fact and a report that shows it
pub record IsCountered (s : Spec) (budget : ℕ) (one : Candidate) (f : Fact) (old new : List ℕ) : Type 0 where
  pub report : Report
  pub is_counter : IsCounter s budget f report
  pub text : new ≡ old ++ (text_of (impossible_pieces s.relations one) ++ counter_text s.relations f report)

-- after this text a finding is told
abbrev pub IsAdded : Spec → ℕ → Candidate → Fact → Shown → List ℕ → List ℕ → Type 0
IsAdded s budget one f (shown.FailsIn place) old new = new ≡ old ++ text_of (possible_pieces s.relations one place)
IsAdded s budget one f shown.Holds old new = IsCountered s budget one f old new

-- after this text the finding of a place is told
pub record IsAddedAt (s : Spec) (budget : ℕ) (f : Found) (place : ℕ) (old new : List ℕ) : Type 0 where
  pub one : Candidate
  pub is_one : slice_get f.candidates place ≡ Some one
  pub fact : Fact
  pub is_fact : slice_get f.facts place ≡ Some fact
  pub finding : Shown
  pub is_finding : slice_get f.shown place ≡ Some finding
  pub added : IsAdded s budget one fact finding old new

-- after this text all findings are told, with these reports
pub record AreAdded (s : Spec) (budget : ℕ) (f : Found) (old new : List ℕ) : Type 0 where
  pub reports : List Report
  pub are_counters : AreCounters s budget f.facts f.shown reports
  pub text : new ≡ old ++ whole_findings s.relations f.candidates f.facts f.shown reports

-- the budget is spent on the question for the fact of a place
pub record IsLeftAt (s : Spec) (budget : ℕ) (f : Found) (place : ℕ) (report : Report) : Type 0 where
  pub fact : Fact
  pub is_fact : slice_get f.facts place ≡ Some fact
  pub spent : IsSpent s (fact_question s.relations fact) budget report
