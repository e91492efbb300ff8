-- What `run` promises: of what the shelf tells, of how many guides are handed in and of the words; of the counts of faults of the
-- shelf and of the sink, before and after; of what the sink had and has; and of the status.
use Rattle.std.specs.Prelude.{◌≡◌, ◌⊎◌, ℕ, List, Option, Some, None, IfSome, Result, Ok}
use Rattle.ask_command.specs.Asked.{ComesToAsked}
use Rattle.certain_table.specs.Table.{ComesToTable}
use Rattle.command_stages.specs.Named.{IsDetermined, IsReadFault, IsReadFaultOf}
use Rattle.command_stages.specs.Stages.{IsQuestionRead, IsSpecRead}
use Rattle.command_stages.specs.declared.done.Done.{Done}
use Rattle.command_stages.specs.declared.trouble.Trouble.{Trouble}
use Rattle.currency_cli.specs.Due.{IsDue, IsReadDue}
use Rattle.currency_cli.specs.Ends.{ComesTo, EndsWith, HasStatus, IsRefusal, RefusalDue}
use Rattle.currency_cli.specs.Words.{command_for}
use Rattle.currency_edge.specs.Fault.{Rose}
use Rattle.currency_report.specs.declared.report.ReadReport.{ReadReport}
use Rattle.golden_command.specs.Asked.{relation_named}
use Rattle.possible_table.specs.Table.{ComesToPossibleTable}
use Rattle.possible_table.specs.Table.{HasTooManyCandidates}
use Rattle.program_words.specs.Words.{AskFor, CertainTableFor, CommandSaid, ConflictsIn, ExplainFor, ForcedOf, GoldenIn}
use Rattle.program_words.specs.Words.{PossibleFor, PossibleTableFor, SessionOver, TrialOf, VerifyOf}
use Rattle.program_words.specs.Words.{AskSaid, ConflictsSaid, ExplainSaid, GoldenSaid, PossibleSaid, SessionSaid, TableSaid, VerifySaid}
use Rattle.query_model.specs.declared.query.Query.{Query}
use Rattle.report_stages.specs.Judged.{IsReportRead}
use Rattle.script_syntax.specs.declared.trees.Entry.{Entry}
use Rattle.session_command.specs.Sessions.{IsScriptRead}
use Rattle.spec_model.specs.Spec.{Spec}
use Rattle.spec_model.specs.declared.question.Question.{Question}
use Rattle.spec_model.specs.declared.question.Question.TheVariants as asked
use Rattle.answer_texts.specs.Answers.{ComesToAnswer}
use Rattle.trial_command.specs.Trial.{IsTrialDue}

-- ---- what comes, and what is due

-- what comes is what is due for the words and the told documents, with its text and status; a document that was not read is one
-- that is due to be read, and then the shelf failed
abbrev pub Ends : Option (List (List ℕ × List ℕ)) → ℕ → List (List ℕ) → ℕ → ℕ → Option (List ℕ) → Option (List ℕ) → ℕ → ℕ
    → ℕ → Type 0
Ends texts count words reads_before reads_now old new writes_before writes_now status =
    (outcome : Result Done Trouble)
    × (IsDetermined outcome → IfSome texts (λ told. IsDue told count words outcome))
    × (IsReadFault outcome → Rose reads_before reads_now)
    × ((n : List ℕ) → IsReadFaultOf outcome n → IfSome texts (λ told. IsReadDue told count words n))
    × EndsWith old new writes_before writes_now outcome status

-- where an outcome is due, its status comes, unless the outside fails or memory runs out
abbrev pub Exact : Option (List (List ℕ × List ℕ)) → ℕ → List (List ℕ) → ℕ → ℕ → ℕ → ℕ → ℕ → Type 0
Exact texts count words reads_before reads_now writes_before writes_now status =
    (outcome : Result Done Trouble) → IfSome texts (λ told. IsDue told count words outcome
    → ComesTo outcome reads_before reads_now writes_before writes_now status)

-- neither count of faults rose: what follows holds then
abbrev pub Steady : ℕ → ℕ → ℕ → ℕ → Type 0 → Type 0
Steady reads_before reads_now writes_before writes_now P =
    (Rose reads_before reads_now → ⊥) → (Rose writes_before writes_now → ⊥) → P

-- where an outcome is due, its status comes, or memory ran out
abbrev pub Complete : Option (List (List ℕ × List ℕ)) → ℕ → List (List ℕ) → ℕ → Type 0
Complete texts count words status =
    (outcome : Result Done Trouble)
    → IfSome texts (λ told. IsDue told count words outcome → HasStatus outcome status ⊎ (status ≡ 9))

-- a refusal of the words, a document, a bound or the report is due
abbrev pub Refused : Option (List (List ℕ × List ℕ)) → ℕ → List (List ℕ) → ℕ → Type 0
Refused texts count words status = IsRefusal status → IfSome texts (λ told. RefusalDue told count words status)

-- the words, and how many guides are handed in, decide whether they are refused
abbrev pub WordsRefused : ℕ → List (List ℕ) → ℕ → Type 0
WordsRefused count words status = command_for count words ≡ None → (status ≡ 2) ⊎ (status ≡ 9)

-- ---- command by command, where the documents are read

-- a question about a specification is answered, whichever of the four it is; unless it is a query that has more than 1,000,000
-- answers over a consistent completion
abbrev pub Answered : Option (List (List ℕ × List ℕ)) → ℕ → List (List ℕ) → ℕ → Type 0
Answered texts count words status =
    (a : AskSaid) → command_for count words ≡ Some (AskFor a)
    → (s : Spec) (question : Question) → IfSome texts (λ told.
    IsSpecRead told a.spec (Ok s) → IsQuestionRead told s.relations a.question (Ok question)
    → ComesToAsked s a question status)

-- a report on a specification and a question is judged
abbrev pub Verified : Option (List (List ℕ × List ℕ)) → ℕ → List (List ℕ) → ℕ → Type 0
Verified texts count words status =
    (v : VerifySaid) → command_for count words ≡ Some (VerifyOf v)
    → (s : Spec) (question : Question) (r : ReadReport) → IfSome texts (λ told.
    IsSpecRead told v.spec (Ok s) → IsQuestionRead told s.relations v.question (Ok question)
    → IsReportRead told s.relations v.report (Ok r)
    → (status ≡ 0) ⊎ ((status ≡ 4) ⊎ (status ≡ 9)))

-- the forced pairs of a specification are listed
abbrev pub Listed : Option (List (List ℕ × List ℕ)) → ℕ → List (List ℕ) → ℕ → Type 0
Listed texts count words status =
    (name : List ℕ) → command_for count words ≡ Some (ForcedOf name)
    → (s : Spec) → IfSome texts (λ told. IsSpecRead told name (Ok s) → (status ≡ 0) ⊎ (status ≡ 9))

-- a unit of the answer is explained, unless the query has too many answers
abbrev pub Explains : Option (List (List ℕ × List ℕ)) → ℕ → List (List ℕ) → ℕ → Type 0
Explains texts count words status =
    (e : ExplainSaid) → command_for count words ≡ Some (ExplainFor e)
    → (s : Spec) (question : Question) → IfSome texts (λ told.
    IsSpecRead told e.spec (Ok s) → IsQuestionRead told s.relations e.question (Ok question)
    → ComesToAnswer s question status)

-- the conflicts of a specification are listed, unless a budget is spent
abbrev pub Blames : Option (List (List ℕ × List ℕ)) → ℕ → List (List ℕ) → ℕ → Type 0
Blames texts count words status =
    (c : ConflictsSaid) → command_for count words ≡ Some (ConflictsIn c)
    → (s : Spec) → IfSome texts (λ told. IsSpecRead told c.spec (Ok s)
    → (status ≡ 0) ⊎ ((status ≡ 3) ⊎ (status ≡ 9)))

-- the golden records of a relation that the specification has are told, unless a budget is spent, or there is no consistent
-- completion
abbrev pub Records : Option (List (List ℕ × List ℕ)) → ℕ → List (List ℕ) → ℕ → Type 0
Records texts count words status =
    (g : GoldenSaid) → command_for count words ≡ Some (GoldenIn g)
    → (s : Spec) (rel : ℕ) → IfSome texts (λ told. IsSpecRead told g.spec (Ok s)
    → relation_named s.relations g.relation ≡ Some rel
    → (status ≡ 0) ⊎ ((status ≡ 3) ⊎ ((status ≡ 10) ⊎ (status ≡ 9))))

-- what may hold is told, unless a budget is spent, or the query has more matches than are gone through
abbrev pub Imagines : Option (List (List ℕ × List ℕ)) → ℕ → List (List ℕ) → ℕ → Type 0
Imagines texts count words status =
    (p : PossibleSaid) → command_for count words ≡ Some (PossibleFor p)
    → (s : Spec) (question : Question) → IfSome texts (λ told.
    IsSpecRead told p.spec (Ok s) → IsQuestionRead told s.relations p.question (Ok question)
    → (status ≡ 0) ⊎ ((status ≡ 3) ⊎ (((status ≡ 6) × HasTooManyCandidates s.relations question) ⊎ (status ≡ 9))))

-- the certain answers of a query are told as a table, unless the budget is spent, there are too many over a consistent
-- completion, or there is none
abbrev pub Tables : Option (List (List ℕ × List ℕ)) → ℕ → List (List ℕ) → ℕ → Type 0
Tables texts count words status =
    (t : TableSaid) → command_for count words ≡ Some (CertainTableFor t)
    → (s : Spec) (query : Query) → IfSome texts (λ told. IsSpecRead told t.spec (Ok s)
    → IsQuestionRead told s.relations t.question (Ok (asked.Answers query))
    → ComesToTable s (asked.Answers query) status ⊎ (status ≡ 9))

-- so are the possible answers, unless the query has more matches than are gone through
abbrev pub PossiblyTables : Option (List (List ℕ × List ℕ)) → ℕ → List (List ℕ) → ℕ → Type 0
PossiblyTables texts count words status =
    (t : TableSaid) → command_for count words ≡ Some (PossibleTableFor t)
    → (s : Spec) (query : Query) → IfSome texts (λ told. IsSpecRead told t.spec (Ok s)
    → IsQuestionRead told s.relations t.question (Ok (asked.Answers query))
    → ComesToPossibleTable s (asked.Answers query) status ⊎ (status ≡ 9))

-- a session goes through its entries to the end, whatever they come to, unless a table that a question names cannot be read
abbrev pub Conducts : Option (List (List ℕ × List ℕ)) → ℕ → List (List ℕ) → ℕ → Type 0
Conducts texts count words status =
    (a : SessionSaid) → command_for count words ≡ Some (SessionOver a)
    → (s : Spec) (entries : List Entry) → IfSome texts (λ told. IsSpecRead told a.spec (Ok s)
    → IsScriptRead told a.script (Ok entries)
    → (status ≡ 0) ⊎ ((status ≡ 3) ⊎ (status ≡ 9)))

-- `trial` reads nothing of the shelf: whatever that tells, what comes is due for the generated documents
abbrev pub Tries : ℕ → List (List ℕ) → Option (List ℕ) → Option (List ℕ) → ℕ → ℕ → ℕ → Type 0
Tries count words old new writes_before writes_now status =
    (size : ℕ) → command_for count words ≡ Some (TrialOf size)
    → (outcome : Result Done Trouble) × (IsDetermined outcome → IsTrialDue size outcome) × (IsReadFault outcome → ⊥)
    × EndsWith old new writes_before writes_now outcome status
