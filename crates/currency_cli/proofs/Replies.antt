-- Where the documents of a command are read, its job is done, or what hinders it is told.
use Rattle.std.proofs.Common.{◌≡◌, ◌⊎◌, ◌∙◌, ℕ, List, Option, Some, None, IfSome, MatchOption, Result, Ok, Err, ap, subst, inl, inr}
use Rattle.answer_tables.proofs.Stages.{query_due}
use Rattle.ask_command.proofs.Replies.{answer_due, answer_comes}
use Rattle.certain_table.proofs.Replies.{certain_comes}
use Rattle.certain_table.specs.Table.{ComesToTable, IsCertainTableDue, IsCertainTableOf}
use Rattle.ask_command.specs.Asked.{ComesToAsked, IsAskDue}
use Rattle.command_stages.specs.Named.{IsDetermined, IsReadFault}
use Rattle.command_stages.specs.Stages.{IsSpecRead, IsQuestionRead}
use Rattle.command_stages.specs.declared.done.Done.{Done}
use Rattle.command_stages.specs.declared.trouble.Trouble.{Trouble}
use Rattle.command_stages.specs.declared.trouble.Trouble.TheVariants as trouble
use Rattle.conflicts_command.proofs.Replies.{found_due, found_comes}
use Rattle.conflicts_command.specs.Found.{IsConflictsDue}
use Rattle.golden_command.proofs.Replies.{golden_comes, golden_due_found}
use Rattle.golden_command.specs.Asked.{relation_named}
use Rattle.golden_command.specs.Golden.{IsGoldenDue, IsGoldenFound}
use Rattle.possible_command.proofs.Replies.{ComesToPossible, possible_comes, possible_due}
use Rattle.possible_command.specs.Possible.{IsPossibleDue}
use Rattle.possible_table.proofs.Replies.{possible_table_comes}
use Rattle.possible_table.specs.Table.{ComesToPossibleTable, IsPossibleTableDue, IsPossibleTableOf}
use Rattle.possible_table.specs.Table.{HasTooManyCandidates}
use Rattle.query_model.specs.declared.query.Query.{Query}
use Rattle.currency_cli.proofs.Exact.{own_status}
use Rattle.currency_cli.specs.Due.{IsDue, IsDueFor}
use Rattle.currency_cli.specs.Ends.{EndsWith}
use Rattle.command_stages.specs.Outcomes.{status_of}
use Rattle.currency_cli.specs.Words.{command_for}
use Rattle.currency_edge.specs.Fault.{Rose}
use Rattle.currency_report.specs.declared.report.ReadReport.{ReadReport}
use Rattle.currency_cli.proofs.Explains.{explanation_due, explanation_comes}
use Rattle.explain_command.specs.Explained.{IsExplainDue}
use Rattle.forced_command.proofs.Replies.{printed_due}
use Rattle.forced_command.specs.Forced.{IsForcedDue, IsForcedPrinted}
use Rattle.program_words.specs.Words.{AskSaid, CommandSaid, ConflictsSaid, ExplainSaid, GoldenSaid, PossibleSaid, TableSaid}
use Rattle.program_words.specs.Words.{AskFor, CertainTableFor, ConflictsIn, ExplainFor, ForcedOf, GoldenIn, PossibleFor}
use Rattle.program_words.specs.Words.{PossibleTableFor, SessionOver, SessionSaid, VerifyOf, VerifySaid}
use Rattle.report_model.specs.declared.verdict.VerdictKind.{VerdictKind}
use Rattle.script_syntax.specs.declared.trees.Entry.{Entry}
use Rattle.currency_cli.proofs.SessionsPrinted.{OneScript, session_comes, session_due}
use Rattle.session_command.specs.Sessions.{IsScriptRead, IsSessionDue}
use Rattle.spec_model.specs.Spec.{Spec}
use Rattle.spec_model.specs.declared.question.Question.{Question}
use Rattle.spec_model.specs.declared.question.Question.TheVariants as asked
use Rattle.spec_model.specs.declared.relation.Relation.{Relation}
use Rattle.answer_texts.specs.Answers.{ComesToAnswer}
use Rattle.verify_command.proofs.Judging.{verify_judged}
use Rattle.report_stages.specs.Judged.{IsJudged, IsReportRead}
use Rattle.verify_command.specs.Judged.{IsVerifyDue, accepted}

-- a document is read as one specification, as one question on the relations of one, and as one report
abbrev pub OneSpec : Type 0
OneSpec = (told : List (List ℕ × List ℕ)) (name : List ℕ) (a b : Result Spec Trouble) → IsSpecRead told name a
    → IsSpecRead told name b → a ≡ b

abbrev pub OneQuestion : Type 0
OneQuestion = (told : List (List ℕ × List ℕ)) (relations : List Relation) (name : List ℕ) (a b : Result Question Trouble)
    → IsQuestionRead told relations name a → IsQuestionRead told relations name b → a ≡ b

abbrev pub OneReport : Type 0
OneReport = (told : List (List ℕ × List ℕ)) (relations : List Relation) (name : List ℕ) (a b : Result ReadReport Trouble)
    → IsReportRead told relations name a → IsReportRead told relations name b → a ≡ b

-- ---- ask

ask_due : (told : List (List ℕ × List ℕ)) (count : ℕ) (words : List (List ℕ)) (a : AskSaid) (got : Result Done Trouble)
    → command_for count words ≡ Some (AskFor a) → IsDue told count words got → IsAskDue told a got
ask_due told count words a got said due =
    subst (λ (o : Option CommandSaid). MatchOption o (got ≡ Err trouble.Words) (λ c. IsDueFor told c got)) said due

pub answered : OneSpec → OneQuestion → (texts : Option (List (List ℕ × List ℕ))) (count : ℕ) (words : List (List ℕ))
    (got : Result Done Trouble)
    (old new : Option (List ℕ)) (rb rn wb wn status : ℕ)
    → (IsDetermined got → IfSome texts (λ told. IsDue told count words got)) → (IsReadFault got → Rose rb rn)
    → EndsWith old new wb wn got status
    → (Rose rb rn → ⊥) → (Rose wb wn → ⊥) → (a : AskSaid) → command_for count words ≡ Some (AskFor a) → (s : Spec) (q : Question)
    → IfSome texts (λ told. IsSpecRead told a.spec (Ok s) → IsQuestionRead told s.relations a.question (Ok q)
    → ComesToAsked s a q status)
answered one_spec one_question None count words got old new rb rn wb wn status due rose ends reads writes a said s q = tt
answered one_spec one_question (Some told) count words got old new rb rn wb wn status due rose ends reads writes a
    said s q = λ spec question.
    of spec question (own_status got old new rb rn wb wn status rose ends reads writes)
  where
    of : IsSpecRead told a.spec (Ok s) → IsQuestionRead told s.relations a.question (Ok q) →
        (IsDetermined got × (status ≡ status_of got)) ⊎ (status ≡ 9)
        → ComesToAsked s a q status
    of spec question (inl own) =
        answer_comes s a q got status (answer_due one_spec one_question told a s q got spec question
        (ask_due told count words a got said (due own.0))) own.1
    of spec question (inr nine) = inr (inr (inr (inr nine)))

-- ---- verify

judged_comes : (s : Spec) (q : Question) (name : List ℕ) (r : ReadReport) (judged : Result VerdictKind Trouble)
    (got : Result Done Trouble) (status : ℕ)
    → IsJudged s q name r judged → got ≡ accepted judged → status ≡ status_of got → (status ≡ 0) ⊎ ((status ≡ 4) ⊎ (status ≡ 9))
judged_comes s q name r judged got status (inl h) same is =
    inl (is ∙ ap (λ (o : Result Done Trouble). status_of o) (same ∙ ap accepted h.1))
judged_comes s q name r judged got status (inr h) same is =
    inr (inl (is ∙ ap (λ (o : Result Done Trouble). status_of o) (same ∙ ap accepted h.3)))

verify_due : (told : List (List ℕ × List ℕ)) (count : ℕ) (words : List (List ℕ)) (v : VerifySaid) (got : Result Done Trouble)
    → command_for count words ≡ Some (VerifyOf v) → IsDue told count words got → IsVerifyDue told v got
verify_due told count words v got said due =
    subst (λ (o : Option CommandSaid). MatchOption o (got ≡ Err trouble.Words) (λ c. IsDueFor told c got)) said due

pub verified : OneSpec → OneQuestion → OneReport → (texts : Option (List (List ℕ × List ℕ))) (count : ℕ)
    (words : List (List ℕ)) (got : Result Done Trouble)
    (old new : Option (List ℕ)) (rb rn wb wn status : ℕ)
    → (IsDetermined got → IfSome texts (λ told. IsDue told count words got)) → (IsReadFault got → Rose rb rn)
    → EndsWith old new wb wn got status
    → (Rose rb rn → ⊥) → (Rose wb wn → ⊥) → (v : VerifySaid) → command_for count words ≡ Some (VerifyOf v) →
    (s : Spec) (q : Question) (r : ReadReport)
    → IfSome texts (λ told. IsSpecRead told v.spec (Ok s) → IsQuestionRead told s.relations v.question (Ok q)
    → IsReportRead told s.relations v.report (Ok r)
    → (status ≡ 0) ⊎ ((status ≡ 4) ⊎ (status ≡ 9)))
verified one_spec one_question one_report None count words got old new rb rn wb wn status due rose ends reads writes
    v said s q r = tt
verified one_spec one_question one_report (Some told) count words got old new rb rn wb wn status due rose ends reads
    writes v said s q r = λ spec question report.
    of spec question report (own_status got old new rb rn wb wn status rose ends reads writes)
  where
    of : IsSpecRead told v.spec (Ok s) → IsQuestionRead told s.relations v.question (Ok q)
        → IsReportRead told s.relations v.report (Ok r)
        → (IsDetermined got × (status ≡ status_of got)) ⊎ (status ≡ 9) → (status ≡ 0) ⊎ ((status ≡ 4) ⊎ (status ≡ 9))
    of spec question report (inl own) =
        let h = verify_judged one_spec one_question one_report told v s q r got spec question report
        (verify_due told count words v got said (due own.0)) in
        judged_comes s q v.report r h.0 got status h.1 h.2 own.1
    of spec question report (inr nine) = inr (inr nine)

-- ---- forced

forced_due : (told : List (List ℕ × List ℕ)) (count : ℕ) (words : List (List ℕ)) (name : List ℕ) (got : Result Done Trouble)
    → command_for count words ≡ Some (ForcedOf name) → IsDue told count words got → IsForcedDue told name got
forced_due told count words name got said due =
    subst (λ (o : Option CommandSaid). MatchOption o (got ≡ Err trouble.Words) (λ c. IsDueFor told c got)) said due

pub listed : OneSpec → (texts : Option (List (List ℕ × List ℕ))) (count : ℕ) (words : List (List ℕ)) (got : Result Done Trouble)
    (old new : Option (List ℕ)) (rb rn wb wn status : ℕ)
    → (IsDetermined got → IfSome texts (λ told. IsDue told count words got)) → (IsReadFault got → Rose rb rn)
    → EndsWith old new wb wn got status
    → (Rose rb rn → ⊥) → (Rose wb wn → ⊥) → (name : List ℕ) → command_for count words ≡ Some (ForcedOf name) → (s : Spec)
    → IfSome texts (λ told. IsSpecRead told name (Ok s) → (status ≡ 0) ⊎ (status ≡ 9))
listed one_spec None count words got old new rb rn wb wn status due rose ends reads writes name said s = tt
listed one_spec (Some told) count words got old new rb rn wb wn status due rose ends reads writes name said s = λ spec.
    of spec (own_status got old new rb rn wb wn status rose ends reads writes)
  where
    of : IsSpecRead told name (Ok s) → (IsDetermined got × (status ≡ status_of got)) ⊎ (status ≡ 9) → (status ≡ 0) ⊎ (status ≡ 9)
    of spec (inl own) =
        let h : IsForcedPrinted s got = printed_due one_spec told name s got spec
        (forced_due told count words name got said (due own.0)) in
        inl (own.1 ∙ ap (λ (o : Result Done Trouble). status_of o) h.2)
    of spec (inr nine) = inr nine

-- ---- explain

explain_due : (told : List (List ℕ × List ℕ)) (count : ℕ) (words : List (List ℕ)) (e : ExplainSaid) (got : Result Done Trouble)
    → command_for count words ≡ Some (ExplainFor e) → IsDue told count words got → IsExplainDue told e got
explain_due told count words e got said due =
    subst (λ (o : Option CommandSaid). MatchOption o (got ≡ Err trouble.Words) (λ c. IsDueFor told c got)) said due

pub explained : OneSpec → OneQuestion → (texts : Option (List (List ℕ × List ℕ))) (count : ℕ) (words : List (List ℕ))
    (got : Result Done Trouble)
    (old new : Option (List ℕ)) (rb rn wb wn status : ℕ)
    → (IsDetermined got → IfSome texts (λ told. IsDue told count words got)) → (IsReadFault got → Rose rb rn)
    → EndsWith old new wb wn got status
    → (Rose rb rn → ⊥) → (Rose wb wn → ⊥) → (e : ExplainSaid) → command_for count words ≡ Some (ExplainFor e)
    → (s : Spec) (q : Question)
    → IfSome texts (λ told. IsSpecRead told e.spec (Ok s) → IsQuestionRead told s.relations e.question (Ok q)
    → ComesToAnswer s q status)
explained one_spec one_question None count words got old new rb rn wb wn status due rose ends reads writes e said s q = tt
explained one_spec one_question (Some told) count words got old new rb rn wb wn status due rose ends reads writes e
    said s q = λ spec question.
    of spec question (own_status got old new rb rn wb wn status rose ends reads writes)
  where
    of : IsSpecRead told e.spec (Ok s) → IsQuestionRead told s.relations e.question (Ok q) →
        (IsDetermined got × (status ≡ status_of got)) ⊎ (status ≡ 9)
        → ComesToAnswer s q status
    of spec question (inl own) =
        explanation_comes s e q got status (explanation_due one_spec one_question told e s q got spec question
        (explain_due told count words e got said (due own.0))) own.1
    of spec question (inr nine) = inr (inr (inr nine))

-- ---- conflicts

blame_due : (told : List (List ℕ × List ℕ)) (count : ℕ) (words : List (List ℕ)) (c : ConflictsSaid) (got : Result Done Trouble)
    → command_for count words ≡ Some (ConflictsIn c) → IsDue told count words got → IsConflictsDue told c got
blame_due told count words c got said due =
    subst (λ (o : Option CommandSaid). MatchOption o (got ≡ Err trouble.Words) (λ x. IsDueFor told x got)) said due

decided_or_not : {status : ℕ} → (status ≡ 0) ⊎ (status ≡ 3) → (status ≡ 0) ⊎ ((status ≡ 3) ⊎ (status ≡ 9))
decided_or_not (inl zero) = inl zero
decided_or_not (inr three) = inr (inl three)

pub blamed : OneSpec → (texts : Option (List (List ℕ × List ℕ))) (count : ℕ) (words : List (List ℕ)) (got : Result Done Trouble)
    (old new : Option (List ℕ)) (rb rn wb wn status : ℕ)
    → (IsDetermined got → IfSome texts (λ told. IsDue told count words got)) → (IsReadFault got → Rose rb rn)
    → EndsWith old new wb wn got status
    → (Rose rb rn → ⊥) → (Rose wb wn → ⊥) → (c : ConflictsSaid) → command_for count words ≡ Some (ConflictsIn c) → (s : Spec)
    → IfSome texts (λ told. IsSpecRead told c.spec (Ok s) → (status ≡ 0) ⊎ ((status ≡ 3) ⊎ (status ≡ 9)))
blamed one_spec None count words got old new rb rn wb wn status due rose ends reads writes c said s = tt
blamed one_spec (Some told) count words got old new rb rn wb wn status due rose ends reads writes c said s = λ spec.
    of spec (own_status got old new rb rn wb wn status rose ends reads writes)
  where
    of : IsSpecRead told c.spec (Ok s) → (IsDetermined got × (status ≡ status_of got)) ⊎ (status ≡ 9)
        → (status ≡ 0) ⊎ ((status ≡ 3) ⊎ (status ≡ 9))
    of spec (inl own) =
        decided_or_not (found_comes s c got status (found_due one_spec told c s got spec
        (blame_due told count words c got said (due own.0))) own.1)
    of spec (inr nine) = inr (inr nine)

-- ---- golden records

record_due : (told : List (List ℕ × List ℕ)) (count : ℕ) (words : List (List ℕ)) (g : GoldenSaid) (got : Result Done Trouble)
    → command_for count words ≡ Some (GoldenIn g) → IsDue told count words got → IsGoldenDue told g got
record_due told count words g got said due =
    subst (λ (o : Option CommandSaid). MatchOption o (got ≡ Err trouble.Words) (λ x. IsDueFor told x got)) said due

printed_or_not : {status : ℕ} → (status ≡ 0) ⊎ ((status ≡ 3) ⊎ (status ≡ 10))
    → (status ≡ 0) ⊎ ((status ≡ 3) ⊎ ((status ≡ 10) ⊎ (status ≡ 9)))
printed_or_not (inl zero) = inl zero
printed_or_not (inr (inl three)) = inr (inl three)
printed_or_not (inr (inr ten)) = inr (inr (inl ten))

pub recorded : OneSpec → (texts : Option (List (List ℕ × List ℕ))) (count : ℕ) (words : List (List ℕ)) (got : Result Done Trouble)
    (old new : Option (List ℕ)) (rb rn wb wn status : ℕ)
    → (IsDetermined got → IfSome texts (λ told. IsDue told count words got)) → (IsReadFault got → Rose rb rn)
    → EndsWith old new wb wn got status
    → (Rose rb rn → ⊥) → (Rose wb wn → ⊥) → (g : GoldenSaid) → command_for count words ≡ Some (GoldenIn g)
    → (s : Spec) (rel : ℕ)
    → IfSome texts (λ told. IsSpecRead told g.spec (Ok s) → relation_named s.relations g.relation ≡ Some rel
    → (status ≡ 0) ⊎ ((status ≡ 3) ⊎ ((status ≡ 10) ⊎ (status ≡ 9))))
recorded one_spec None count words got old new rb rn wb wn status due rose ends reads writes g said s rel = tt
recorded one_spec (Some told) count words got old new rb rn wb wn status due rose ends reads writes g said s rel =
    λ spec named. of spec named (own_status got old new rb rn wb wn status rose ends reads writes)
  where
    of : IsSpecRead told g.spec (Ok s) → relation_named s.relations g.relation ≡ Some rel
        → (IsDetermined got × (status ≡ status_of got)) ⊎ (status ≡ 9)
        → (status ≡ 0) ⊎ ((status ≡ 3) ⊎ ((status ≡ 10) ⊎ (status ≡ 9)))
    of spec named (inl own) =
        let found : IsGoldenFound told g s got =
        golden_due_found one_spec told g s got spec (record_due told count words g got said (due own.0)) in
        printed_or_not (golden_comes found.0 s g rel got status found.2 named own.1)
    of spec named (inr nine) = inr (inr (inr nine))

-- ---- what may hold

imagine_due : (told : List (List ℕ × List ℕ)) (count : ℕ) (words : List (List ℕ)) (p : PossibleSaid) (got : Result Done Trouble)
    → command_for count words ≡ Some (PossibleFor p) → IsDue told count words got → IsPossibleDue told p got
imagine_due told count words p got said due =
    subst (λ (o : Option CommandSaid). MatchOption o (got ≡ Err trouble.Words) (λ x. IsDueFor told x got)) said due

decided_or_limit : (s : Spec) (q : Question) (status : ℕ) → ComesToPossible s q status
    → (status ≡ 0) ⊎ ((status ≡ 3) ⊎ (((status ≡ 6) × HasTooManyCandidates s.relations q) ⊎ (status ≡ 9)))
decided_or_limit s q status (inl zero) = inl zero
decided_or_limit s q status (inr (inl three)) = inr (inl three)
decided_or_limit s q status (inr (inr six)) = inr (inr (inl six))

pub imagined : OneSpec → OneQuestion → (texts : Option (List (List ℕ × List ℕ))) (count : ℕ) (words : List (List ℕ))
    (got : Result Done Trouble)
    (old new : Option (List ℕ)) (rb rn wb wn status : ℕ)
    → (IsDetermined got → IfSome texts (λ told. IsDue told count words got)) → (IsReadFault got → Rose rb rn)
    → EndsWith old new wb wn got status
    → (Rose rb rn → ⊥) → (Rose wb wn → ⊥) → (p : PossibleSaid) → command_for count words ≡ Some (PossibleFor p)
    → (s : Spec) (q : Question)
    → IfSome texts (λ told. IsSpecRead told p.spec (Ok s) → IsQuestionRead told s.relations p.question (Ok q)
    → (status ≡ 0) ⊎ ((status ≡ 3) ⊎ (((status ≡ 6) × HasTooManyCandidates s.relations q) ⊎ (status ≡ 9))))
imagined one_spec one_question None count words got old new rb rn wb wn status due rose ends reads writes p said s q = tt
imagined one_spec one_question (Some told) count words got old new rb rn wb wn status due rose ends reads writes p
    said s q = λ spec question.
    of spec question (own_status got old new rb rn wb wn status rose ends reads writes)
  where
    of : IsSpecRead told p.spec (Ok s) → IsQuestionRead told s.relations p.question (Ok q) →
        (IsDetermined got × (status ≡ status_of got)) ⊎ (status ≡ 9)
        → (status ≡ 0) ⊎ ((status ≡ 3) ⊎ (((status ≡ 6) × HasTooManyCandidates s.relations q) ⊎ (status ≡ 9)))
    of spec question (inl own) =
        decided_or_limit s q status (possible_comes s p q got status
        (possible_due one_spec one_question told p s q got spec question
        (imagine_due told count words p got said (due own.0))) own.1)
    of spec question (inr nine) = inr (inr (inr nine))

-- ---- tables of answers

certain_table_due : (told : List (List ℕ × List ℕ)) (count : ℕ) (words : List (List ℕ)) (t : TableSaid)
    (got : Result Done Trouble)
    → command_for count words ≡ Some (CertainTableFor t) → IsDue told count words got → IsCertainTableDue told t got
certain_table_due told count words t got said due =
    subst (λ (o : Option CommandSaid). MatchOption o (got ≡ Err trouble.Words) (λ x. IsDueFor told x got)) said due

pub tabled : OneSpec → OneQuestion → (texts : Option (List (List ℕ × List ℕ))) (count : ℕ) (words : List (List ℕ))
    (got : Result Done Trouble)
    (old new : Option (List ℕ)) (rb rn wb wn status : ℕ)
    → (IsDetermined got → IfSome texts (λ told. IsDue told count words got)) → (IsReadFault got → Rose rb rn)
    → EndsWith old new wb wn got status
    → (Rose rb rn → ⊥) → (Rose wb wn → ⊥) → (t : TableSaid) → command_for count words ≡ Some (CertainTableFor t)
    → (s : Spec) (query : Query)
    → IfSome texts (λ told. IsSpecRead told t.spec (Ok s)
    → IsQuestionRead told s.relations t.question (Ok (asked.Answers query))
    → ComesToTable s (asked.Answers query) status ⊎ (status ≡ 9))
tabled one_spec one_question None count words got old new rb rn wb wn status due rose ends reads writes t said s query = tt
tabled one_spec one_question (Some told) count words got old new rb rn wb wn status due rose ends reads writes t said s
    query = λ spec question.
    of spec question (own_status got old new rb rn wb wn status rose ends reads writes)
  where
    of : IsSpecRead told t.spec (Ok s) → IsQuestionRead told s.relations t.question (Ok (asked.Answers query))
        → (IsDetermined got × (status ≡ status_of got)) ⊎ (status ≡ 9)
        → ComesToTable s (asked.Answers query) status ⊎ (status ≡ 9)
    of spec question (inl own) =
        let job = query_due told t (IsCertainTableOf t.budget) one_spec one_question s query got spec question
        (certain_table_due told count words t got said (due own.0)) in
        inl (certain_comes t.budget s (asked.Answers query) job.0 got status job.1 own.1)
    of spec question (inr nine) = inr nine

possible_table_due : (told : List (List ℕ × List ℕ)) (count : ℕ) (words : List (List ℕ)) (t : TableSaid)
    (got : Result Done Trouble) → command_for count words ≡ Some (PossibleTableFor t) → IsDue told count words got
    → IsPossibleTableDue told t got
possible_table_due told count words t got said due =
    subst (λ (o : Option CommandSaid). MatchOption o (got ≡ Err trouble.Words) (λ x. IsDueFor told x got)) said due

pub possibly_tabled : OneSpec → OneQuestion → (texts : Option (List (List ℕ × List ℕ))) (count : ℕ) (words : List (List ℕ))
    (got : Result Done Trouble)
    (old new : Option (List ℕ)) (rb rn wb wn status : ℕ)
    → (IsDetermined got → IfSome texts (λ told. IsDue told count words got)) → (IsReadFault got → Rose rb rn)
    → EndsWith old new wb wn got status
    → (Rose rb rn → ⊥) → (Rose wb wn → ⊥) → (t : TableSaid) → command_for count words ≡ Some (PossibleTableFor t)
    → (s : Spec) (query : Query)
    → IfSome texts (λ told. IsSpecRead told t.spec (Ok s)
    → IsQuestionRead told s.relations t.question (Ok (asked.Answers query))
    → ComesToPossibleTable s (asked.Answers query) status ⊎ (status ≡ 9))
possibly_tabled one_spec one_question None count words got old new rb rn wb wn status due rose ends reads writes t said s
    query = tt
possibly_tabled one_spec one_question (Some told) count words got old new rb rn wb wn status due rose ends reads writes t
    said s query = λ spec question.
    of spec question (own_status got old new rb rn wb wn status rose ends reads writes)
  where
    of : IsSpecRead told t.spec (Ok s) → IsQuestionRead told s.relations t.question (Ok (asked.Answers query))
        → (IsDetermined got × (status ≡ status_of got)) ⊎ (status ≡ 9)
        → ComesToPossibleTable s (asked.Answers query) status ⊎ (status ≡ 9)
    of spec question (inl own) =
        let job = query_due told t (IsPossibleTableOf t.budget) one_spec one_question s query got spec question
        (possible_table_due told count words t got said (due own.0)) in
        inl (possible_table_comes t.budget s (asked.Answers query) job.0 got status job.1 own.1)
    of spec question (inr nine) = inr nine

-- ---- sessions

conduct_due : (told : List (List ℕ × List ℕ)) (count : ℕ) (words : List (List ℕ)) (a : SessionSaid) (got : Result Done Trouble)
    → command_for count words ≡ Some (SessionOver a) → IsDue told count words got → IsSessionDue told a got
conduct_due told count words a got said due =
    subst (λ (o : Option CommandSaid). MatchOption o (got ≡ Err trouble.Words) (λ x. IsDueFor told x got)) said due

pub conducted : OneSpec → OneScript → (texts : Option (List (List ℕ × List ℕ))) (count : ℕ) (words : List (List ℕ))
    (got : Result Done Trouble)
    (old new : Option (List ℕ)) (rb rn wb wn status : ℕ)
    → (IsDetermined got → IfSome texts (λ told. IsDue told count words got)) → (IsReadFault got → Rose rb rn)
    → EndsWith old new wb wn got status
    → (Rose rb rn → ⊥) → (Rose wb wn → ⊥) → (a : SessionSaid) → command_for count words ≡ Some (SessionOver a)
    → (s : Spec) (entries : List Entry)
    → IfSome texts (λ told. IsSpecRead told a.spec (Ok s) → IsScriptRead told a.script (Ok entries)
    → (status ≡ 0) ⊎ ((status ≡ 3) ⊎ (status ≡ 9)))
conducted one_spec one_script None count words got old new rb rn wb wn status due rose ends reads writes a said s entries = tt
conducted one_spec one_script (Some told) count words got old new rb rn wb wn status due rose ends reads writes a said
    s entries = λ spec script.
    of spec script (own_status got old new rb rn wb wn status rose ends reads writes)
  where
    of : IsSpecRead told a.spec (Ok s) → IsScriptRead told a.script (Ok entries)
        → (IsDetermined got × (status ≡ status_of got)) ⊎ (status ≡ 9) → (status ≡ 0) ⊎ ((status ≡ 3) ⊎ (status ≡ 9))
    of spec script (inl own) =
        decided_or_not (session_comes told a s entries got status (session_due one_spec one_script told a s entries got
        spec script (conduct_due told count words a got said (due own.0))) own.1)
    of spec script (inr nine) = inr (inr nine)
