-- Where the documents of `ask` are read, the question is answered.
use Rattle.std.proofs.Common.{◌≡◌, ◌⊎◌, ◌∙◌, ℕ, Bool, true, false, cond, List, MatchResult, Result, Ok, Err, ap, subst, inl, inr, refl, sym}
use Rattle.std.specs.Prelude.{◌&&◌}
use Rattle.std.proofs.lemmas.Bool.{false≢true}
use Rattle.std.proofs.lemmas.Option.{none-some}
use Rattle.ask_command.proofs.OneAnswer.{no_query_denied, one_no}
use Rattle.ask_command.specs.Asked.{ComesToAsked, IsAnswered, IsAskDue}
use Rattle.ask_command.specs.Forms.{ask_ending, is_no}
use Rattle.command_stages.proofs.OneRead.{IsOne}
use Rattle.command_stages.proofs.Outcomes.{IsLike, answer_or_limit, done_alike, limit_or_answer, same_alike, then_like}
use Rattle.command_stages.specs.Alike.{EndAlike}
use Rattle.command_stages.specs.Endings.{IsOfAnswers, ending_of, ending_status}
use Rattle.command_stages.specs.Stages.{Then, IsSpecRead, IsQuestionRead}
use Rattle.command_stages.specs.Outcomes.{status_of}
use Rattle.command_stages.specs.declared.done.Done.{Done}
use Rattle.command_stages.specs.declared.done.Ending.TheVariants as ending
use Rattle.command_stages.specs.declared.trouble.Trouble.{Trouble}
use Rattle.currency_ask.specs.Answered.{HasTooMany}
use Rattle.program_words.specs.Words.{AskSaid}
use Rattle.report_model.specs.Verdicts.{is_decided, kind_of}
use Rattle.report_model.specs.declared.report.Report.{Report}
use Rattle.report_model.specs.declared.verdict.VerdictKind.{VerdictKind}
use Rattle.report_model.specs.declared.verdict.VerdictKind.TheVariants as kind
use Rattle.report_model.specs.declared.verdict.Verdict.{Verdict}
use Rattle.report_verify.specs.Right.{IsRight}
use Rattle.spec_model.specs.Completion.{Rankings}
use Rattle.spec_model.specs.Spec.{Spec}
use Rattle.spec_model.specs.declared.question.Question.{Question}
use Rattle.spec_model.specs.declared.question.Question.TheVariants as asked
use Rattle.spec_model.specs.declared.relation.Relation.{Relation}
use Rattle.answer_texts.specs.Answers.{IsAnswer}

abbrev OneSpec : Type 0
OneSpec = (told : List (List ℕ × List ℕ)) (name : List ℕ) → IsOne (IsSpecRead told name)

abbrev OneQuestion : Type 0
OneQuestion = (told : List (List ℕ × List ℕ)) (relations : List Relation) (name : List ℕ)
    → IsOne (IsQuestionRead told relations name)

-- ---- both are read, so an answer is due

asked_at : OneQuestion → (told : List (List ℕ × List ℕ)) (a : AskSaid) (s : Spec) (q : Question) (got : Result Done Trouble)
    → IsQuestionRead told s.relations a.question (Ok q) → Then (IsQuestionRead told s.relations a.question)
    (IsAnswered s a) got → IsAnswered s a q got
asked_at one told a s q got read h =
    subst (λ (r : Result Question Trouble). MatchResult r (λ x. IsAnswered s a x got) (λ e. got ≡ Err e))
    (one told s.relations a.question h.0 (Ok q) h.1 read) h.2

pub answer_due : OneSpec → OneQuestion → (told : List (List ℕ × List ℕ)) (a : AskSaid) (s : Spec) (q : Question)
    (got : Result Done Trouble)
    → IsSpecRead told a.spec (Ok s) → IsQuestionRead told s.relations a.question (Ok q) → IsAskDue told a got
    → IsAnswered s a q got
answer_due one_spec one_question told a s q got spec question h =
    asked_at one_question told a s q got question
    (subst (λ (r : Result Spec Trouble). MatchResult r (λ x. Then (IsQuestionRead told x.relations a.question)
    (IsAnswered x a) got) (λ e. got ≡ Err e))
    (one_spec told a.spec h.0 (Ok s) h.1 spec) h.2)

-- ---- an answer's status

asked_status : (s : Spec) (a : AskSaid) (q : Question) (k : VerdictKind) (status : ℕ)
    → status ≡ ending_status (ask_ending a.exit k)
    → ComesToAsked s a q status
asked_status s a q k status is = by a.exit refl (is_no k) (is_decided k) is
  where
    by : (exit : Bool) → a.exit ≡ exit → (negative decided : Bool)
        → status ≡ ending_status (cond (exit && negative) ending.Denied (ending_of decided)) → ComesToAsked s a q status
    by true e true decided is = inl (is, e)
    by true e false true is = inr (inl is)
    by true e false false is = inr (inr (inl is))
    by false e negative true is = inr (inl is)
    by false e negative false is = inr (inr (inl is))

pub answer_comes : (s : Spec) (a : AskSaid) (q : Question) (got : Result Done Trouble) (status : ℕ)
    → IsAnswered s a q got → status ≡ status_of got
    → ComesToAsked s a q status
answer_comes s a q got status (inl h) is =
    asked_status s a q (kind_of h.0.verdict) status (is ∙ ap (λ (o : Result Done Trouble). status_of o) h.2)
answer_comes s a q got status (inr h) is =
    inr (inr (inr (inl (is ∙ ap (λ (o : Result Done Trouble). status_of o) h.2, h.0, h.1))))

-- ---- what is due differs in no more than which report answers

no_is_decided : (k : VerdictKind) → is_no k ≡ true → is_decided k ≡ true
no_is_decided kind.Inconsistent e = refl
no_is_decided kind.NotCertain e = refl
no_is_decided kind.NotSame e = refl
no_is_decided kind.Consistent e = refl
no_is_decided kind.Certain e = refl
no_is_decided kind.Same e = refl
no_is_decided kind.Answers e = refl
no_is_decided kind.Undecided e = absurd (false≢true e)

-- two answers end alike where both say no, or neither does, or one says nothing
ends_alike : (exit : Bool) (v w : VerdictKind) → (is_decided v ≡ true → is_decided w ≡ true → is_no v ≡ is_no w)
    → EndAlike (ask_ending exit v) (ask_ending exit w)
ends_alike exit v w agree =
    by exit (is_no v) (is_decided v) (is_no w) (is_decided w) (no_is_decided v) (no_is_decided w) agree
  where
    by : (exit nv dv nw dw : Bool) → (nv ≡ true → dv ≡ true) → (nw ≡ true → dw ≡ true)
        → (dv ≡ true → dw ≡ true → nv ≡ nw)
        → EndAlike (cond (exit && nv) ending.Denied (ending_of dv)) (cond (exit && nw) ending.Denied (ending_of dw))
    by false nv true nw true h k same = tt
    by false nv true nw false h k same = tt
    by false nv false nw true h k same = inl tt
    by false nv false nw false h k same = inl tt
    by true true dv true dw h k same = tt
    by true true dv false false h k same = tt
    by true true dv false true h k same = absurd (false≢true (sym (same (h refl) refl)))
    by true false true true dw h k same = absurd (false≢true (same refl (k refl)))
    by true false false true dw h k same = inr tt
    by true false true false true h k same = tt
    by true false true false false h k same = tt
    by true false false false true h k same = inl tt
    by true false false false false h k same = inl tt

answers_agree : (s : Spec) (q : Question) (budget : ℕ) (r other : Report) → IsAnswer s q budget r → IsAnswer s q budget other
    → is_decided (kind_of r.verdict) ≡ true → is_decided (kind_of other.verdict) ≡ true
    → is_no (kind_of r.verdict) ≡ is_no (kind_of other.verdict)
answers_agree s q budget r other h k first second =
    one_no s q r.verdict other.verdict (h.right first) (k.right second)

-- a query with more answers over a completion than are gone through is not answered with a no
too_many_no : (s : Spec) (q : Question) (v : Verdict) (c : Rankings) → HasTooMany s q c → IsRight s q v
    → is_no (kind_of v) ≡ true → ⊥
too_many_no s (asked.Answers query) v c many h e = no_query_denied s query v (c, many.consistent) h e
too_many_no s asked.Consistent v c many h e = none-some many.query many.is_query
too_many_no s (asked.Certain pairs) v c many h e = none-some many.query many.is_query
too_many_no s (asked.Same rels) v c many h e = none-some many.query many.is_query

limited_ends : (s : Spec) (q : Question) (budget : ℕ) (r : Report) (c : Rankings) → HasTooMany s q c → IsAnswer s q budget r
    → (exit : Bool) → IsOfAnswers (ask_ending exit (kind_of r.verdict))
limited_ends s q budget r c many answer exit = by exit (is_no (kind_of r.verdict)) (is_decided (kind_of r.verdict)) refl
  where
    by : (exit negative decided : Bool) → is_no (kind_of r.verdict) ≡ negative
        → IsOfAnswers (cond (exit && negative) ending.Denied (ending_of decided))
    by true true decided e =
        absurd (too_many_no s q r.verdict c many (answer.right (no_is_decided (kind_of r.verdict) e)) e)
    by true false true e = tt
    by true false false e = tt
    by false negative true e = tt
    by false negative false e = tt

answered_like : (s : Spec) (a : AskSaid) (q : Question) → IsLike (IsAnswered s a q)
answered_like s a q x y (inl h) (inl k) = done_alike _ _ x y
    (ends_alike a.exit (kind_of h.0.verdict) (kind_of k.0.verdict) (answers_agree s q a.budget h.0 k.0 h.1 k.1)) h.2 k.2
answered_like s a q x y (inl h) (inr k) = answer_or_limit _ x y (limited_ends s q a.budget h.0 k.0 k.1 h.1 a.exit) h.2 k.2
answered_like s a q x y (inr h) (inl k) = limit_or_answer _ x y (limited_ends s q a.budget k.0 h.0 h.1 k.1 a.exit) h.2 k.2
answered_like s a q x y (inr h) (inr k) = same_alike x y (h.2 ∙ sym k.2)

pub ask_like : OneSpec → OneQuestion → (told : List (List ℕ × List ℕ)) (a : AskSaid) → IsLike (IsAskDue told a)
ask_like one_spec one_question told a =
    then_like (IsSpecRead told a.spec) _ (one_spec told a.spec) (λ s.
    then_like (IsQuestionRead told s.relations a.question) (IsAnswered s a)
    (one_question told s.relations a.question) (answered_like s a))
