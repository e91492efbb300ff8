-- What `ask` comes to, stage by stage.
use Rattle.std.proofs.Common.{◌≡◌, ℕ, List, Option, Some, None, IfOk, IfErr, IfSome, Result, Ok, Err, inl, inr, refl, sym, ap, subst}
use Rattle.ask_command.specs.Asked.{IsAnswered, IsAskDue, IsAnswerPrinted}
use Rattle.command_stages.proofs.Outcomes.{done_apart, same_done}
use Rattle.ask_command.specs.Forms.{ask_ending, asked_done, form_text}
use Rattle.command_stages.specs.Named.{IsDetermined, IsDeterminedTrouble}
use Rattle.command_stages.specs.Stages.{IsSpecRead, IsQuestionRead}
use Rattle.command_stages.specs.declared.done.Done.{Done}
use Rattle.command_stages.specs.declared.trouble.Trouble.{Trouble}
use Rattle.command_stages.specs.declared.trouble.Trouble.TheVariants as trouble
use Rattle.currency_ask.specs.Answered.{HasTooMany}
use Rattle.program_words.specs.Words.{AskSaid}
use Rattle.report_model.specs.Verdicts.{kind_of}
use Rattle.report_model.specs.declared.report.Report.{Report}
use Rattle.spec_model.specs.Completion.{Rankings}
use Rattle.spec_model.specs.Spec.{Spec}
use Rattle.spec_model.specs.declared.question.Question.{Question}
use Rattle.answer_texts.specs.Answers.{IsAnswer}

-- a report that is told is an answer
pub answered : (s : Spec) (a : AskSaid) (q : Question) (r : Report) (outcome : Result Done Trouble) → IsAnswer s q a.budget r
    → IfOk outcome (λ d. d ≡ asked_done s.relations a r)
    → IfErr outcome (λ e. e ≡ trouble.NoMemory) → IsDetermined outcome → IsAnswered s a q outcome
answered s a q r (Ok d) answer told memory determined = inl (r, answer, ap Ok told)
answered s a q r (Err e) answer told memory determined = absurd (subst IsDeterminedTrouble memory determined)

pub not_answered : (s : Spec) (a : AskSaid) (q : Question) (e : Trouble) →
    (IsDeterminedTrouble e → (c : Rankings) × HasTooMany s q c × (e ≡ trouble.Limit 3))
    → IsDeterminedTrouble e → IsAnswered s a q (Err e)
not_answered s a q e told determined =
    let h : (c : Rankings) × HasTooMany s q c × (e ≡ trouble.Limit 3) = told determined in
    inr (h.0, h.1, ap Err h.2)

answer_printed : (told : List (List ℕ × List ℕ)) (a : AskSaid) (s : Spec) (q : Question) (r : Report)
    → IsSpecRead told a.spec (Ok s)
    → IsQuestionRead told s.relations a.question (Ok q) → IsAnswer s q a.budget r
    → IsAnswerPrinted told a (form_text s.relations a.form r) (ask_ending a.exit (kind_of r.verdict))
answer_printed told a s q r spec question answer = record {
  spec = s;
  question = q;
  spec_read = spec;
  question_read = question;
  report = r;
  answer = answer;
  is_text = refl;
  ended = refl;
  verified = λ name. (
    Ok (record { report = r; lines = answer.lines }),
    inl (record { report = r; lines = answer.lines }, answer.reread, refl),
    inl (answer.shown, refl),
  );
}

printed_answer : (told : List (List ℕ × List ℕ)) (a : AskSaid) (s : Spec) (q : Question) (d : Done)
    → IsSpecRead told a.spec (Ok s)
    → IsQuestionRead told s.relations a.question (Ok q) → IsAnswered s a q (Ok d) → IsAnswerPrinted told a d.text d.ending
printed_answer told a s q d spec question (inl h) =
    subst (λ (d : Done). IsAnswerPrinted told a d.text d.ending) (sym (same_done d _ h.2))
    (answer_printed told a s q h.0 spec question h.1)
printed_answer told a s q d spec question (inr h) = absurd (done_apart d (trouble.Limit 3) h.2)

-- the stages together
pub ask_printed : (texts : Option (List (List ℕ × List ℕ))) (a : AskSaid) (s : Spec) (q : Question) (outcome : Result Done Trouble)
    → IfSome texts (λ told. IsSpecRead told a.spec (Ok s)) → IfSome texts
    (λ told. IsQuestionRead told s.relations a.question (Ok q))
    → (IsDetermined outcome → IsAnswered s a q outcome) → IfOk outcome
    (λ d. IfSome texts (λ told. IsAnswerPrinted told a d.text d.ending))
ask_printed None a s q (Ok d) spec question job = tt
ask_printed (Some told) a s q (Ok d) spec question job = printed_answer told a s q d spec question (job tt)
ask_printed texts a s q (Err e) spec question job = tt

-- an answer is due
pub ask_due : (texts : Option (List (List ℕ × List ℕ))) (a : AskSaid) (s : Spec) (q : Question) (outcome : Result Done Trouble)
    → IfSome texts (λ told. IsSpecRead told a.spec (Ok s)) → IfSome texts
    (λ told. IsQuestionRead told s.relations a.question (Ok q))
    → (IsDetermined outcome → IsAnswered s a q outcome) → IsDetermined outcome → IfSome texts (λ told. IsAskDue told a outcome)
ask_due None a s q outcome spec question job determined = tt
ask_due (Some told) a s q outcome spec question job determined = (Ok s, spec, (Ok q, question, job determined))
