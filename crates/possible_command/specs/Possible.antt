-- What is due where it is asked what may hold, and what is told.
use Rattle.std.specs.Prelude.{◌≡◌, ◌⊎◌, ◌∷◌, [], ℕ, Bool, true, false, List, Contains, Result, Ok, Err}
use Rattle.command_stages.specs.Documents.{IsSpecDocumentDue, IsQuestionDue}
use Rattle.command_stages.specs.Stages.{Then, IsSpecRead, IsQuestionRead}
use Rattle.command_stages.specs.declared.done.Done.{Done}
use Rattle.command_stages.specs.declared.done.Ending.{Ending}
use Rattle.command_stages.specs.declared.trouble.Trouble.{Trouble}
use Rattle.command_stages.specs.declared.trouble.Trouble.TheVariants as trouble
use Rattle.decided_facts.specs.Decided.{IsSpent}
use Rattle.posed_facts.specs.Questions.{fact_question}
use Rattle.posed_facts.specs.declared.fact.Fact.{Fact}
use Rattle.possible_values.specs.Possible.{IsPossible}
use Rattle.possible_values.specs.declared.found.Found.{Found}
use Rattle.possible_values.specs.declared.found.Posed.TheVariants as posed
use Rattle.possible_values.specs.declared.found.Possible.{Possible}
use Rattle.possible_values.specs.declared.found.Possible.TheVariants as possible
use Rattle.program_words.specs.Words.{PossibleSaid}
use Rattle.program_words.specs.declared.command.Possible.{Possible as Asked}
use Rattle.report_model.specs.Verdicts.{is_decided, kind_of}
use Rattle.report_model.specs.declared.report.Report.{Report}
use Rattle.decided_facts.specs.declared.shown.Shown.{Shown}
use Rattle.decided_facts.specs.declared.shown.Shown.TheVariants as shown
use Rattle.spec_model.specs.Spec.{Spec}
use Rattle.spec_model.specs.declared.question.Question.{Question}
use Rattle.answer_texts.specs.Answers.{IsAnswer}
use Rattle.possible_command.specs.Text.{brief_text, decided, inconsistent_text, undecided, undecided_text, whole_text}

-- what is asked, with the names of documents as bytes
abbrev pub possible_said : Asked → PossibleSaid
possible_said a = record { spec = a.spec.now; question = a.question.now; budget = a.budget; brief = a.brief; guide = a.guide }

-- a report shows that a fact holds in every consistent completion
pub record IsCounter (s : Spec) (budget : ℕ) (f : Fact) (report : Report) : Type 0 where
  pub answer : IsAnswer s (fact_question s.relations f) budget report
  pub decided : is_decided (kind_of report.verdict) ≡ true

-- there is such a report for each fact that is shown to hold, in their order
pub data AreCounters (s : Spec) (budget : ℕ) : List Fact → List Shown → List Report → Type 0 where
  none : AreCounters s budget [] [] []
  passed : {f : Fact} {facts : List Fact} {place : ℕ} {list : List Shown} {reports : List Report}
      → AreCounters s budget facts list reports → AreCounters s budget (f ∷ facts) (shown.FailsIn place ∷ list) reports
  countered : {f : Fact} {facts : List Fact} {list : List Shown} {report : Report} {reports : List Report}
      → IsCounter s budget f report → AreCounters s budget facts list reports
      → AreCounters s budget (f ∷ facts) (shown.Holds ∷ list) (report ∷ reports)

-- what is found is told with the reports for what is impossible; or for one of these the budget is spent over the whole
pub record ArePrintedWhole (s : Spec) (budget : ℕ) (f : Found) (outcome : Result Done Trouble) : Type 0 where
  pub reports : List Report
  pub are_counters : AreCounters s budget f.facts f.shown reports
  pub comes : outcome ≡ Ok (decided (whole_text s f reports))

pub record IsLeftOpen (s : Spec) (budget : ℕ) (f : Found) (outcome : Result Done Trouble) : Type 0 where
  pub fact : Fact
  pub is_there : Contains f.facts fact
  pub report : Report
  pub spent : IsSpent s (fact_question s.relations fact) budget report
  pub comes : outcome ≡ Ok (undecided (undecided_text s (posed.Fact fact) report))

abbrev pub ArePrinted : Spec → Bool → ℕ → Found → Result Done Trouble → Type 0
ArePrinted s true budget f outcome = outcome ≡ Ok (decided (brief_text s f))
ArePrinted s false budget f outcome = ArePrintedWhole s budget f outcome ⊎ IsLeftOpen s budget f outcome

-- what is found comes to this
abbrev pub ComesOf : Spec → Bool → ℕ → Possible → Result Done Trouble → Type 0
ComesOf s brief budget (possible.Inconsistent report) outcome = outcome ≡ Ok (decided (inconsistent_text s brief report))
ComesOf s brief budget (possible.Found f) outcome = ArePrinted s brief budget f outcome
ComesOf s brief budget (possible.Undecided p report) outcome = outcome ≡ Ok (undecided (undecided_text s p report))
ComesOf s brief budget possible.TooMany outcome = outcome ≡ Err (trouble.Limit 13)

-- the job: what may hold is told
abbrev pub IsPossibleOf : Spec → PossibleSaid → Question → Result Done Trouble → Type 0
IsPossibleOf s a question outcome =
    (x : Possible) × IsPossible s question a.budget x × ComesOf s a.brief a.budget x outcome

-- what is due for a question about a specification
abbrev pub IsPossibleDue : List (List ℕ × List ℕ) → PossibleSaid → Result Done Trouble → Type 0
IsPossibleDue told a = Then (IsSpecRead told a.spec) (λ s. Then (IsQuestionRead told s.relations a.question) (IsPossibleOf s a))

-- a document is due to be read
abbrev pub IsPossibleDocumentDue : List (List ℕ × List ℕ) → PossibleSaid → List ℕ → Type 0
IsPossibleDocumentDue told a name = IsSpecDocumentDue told a.spec name ⊎ IsQuestionDue told a.spec a.question name

-- the documents are read as a specification and a question, and this is told of what may hold
pub record IsPossiblePrinted (told : List (List ℕ × List ℕ)) (a : PossibleSaid) (text : List ℕ) (ending : Ending) : Type 0 where
  pub spec : Spec
  pub question : Question
  pub spec_read : IsSpecRead told a.spec (Ok spec)
  pub question_read : IsQuestionRead told spec.relations a.question (Ok question)
  pub possible : IsPossibleOf spec a question (Ok (record { text = text; ending = ending }))
