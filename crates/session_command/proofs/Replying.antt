-- Replies, and what is told of them.
use Rattle.std.proofs.Common.{◌≡◌, ◌∙◌, ◌++◌, ℕ, true, false, Some, Result, Ok, Err, inl, inr, refl, sym, ap, subst, slice_get}
use Rattle.std.proofs.lemmas.List.Elements.{All-get_or}
use Rattle.std.proofs.lemmas.Option.{get_or_from_slice_get, same_Some, slice_get_within}
use Rattle.answer_texts.specs.Answers.{answer_text}
use Rattle.currency_ask.specs.declared.fault.AskFault.{AskFault}
use Rattle.currency_ask.specs.declared.fault.AskFault.TheVariants as ask
use Rattle.currency_session.specs.Sessions.{AreKept, IsKeptReport, IsRightReply, Replies, Session, reply_report}
use Rattle.currency_session.specs.declared.reply.Reply.{Reply}
use Rattle.currency_session.specs.declared.reply.Reply.TheVariants.{Kept, Open}
use Rattle.program_words.specs.Words.{SessionSaid}
use Rattle.report_model.specs.Verdicts.{is_decided, kind_of}
use Rattle.report_model.specs.declared.report.Report.{Report}
use Rattle.report_verify.specs.Right.{IsRight}
use Rattle.report_write.specs.Writable.{IsWritableReport}
use Rattle.spec_model.specs.Spec.{Spec}
use Rattle.spec_model.specs.declared.question.Question.{Question}
use Rattle.session_command.specs.Steps.{IsReplyTold, IsTooMany, IsWritableReply, step_of}
use Rattle.session_command.specs.Texts.{limit_line, reply_text}
use Rattle.session_command.specs.Transcripts.{HasTooManyAnswers, IsReplied, IsReplyReport}
use Rattle.session_command.specs.declared.telling.Told.{Told}

-- the session's specification stays whatever the reply
pub asked_spec : (old new : Session) (q : Question) (budget : ℕ) (outcome : Result Reply AskFault)
    → Replies old new q budget outcome → new.spec ≡ old.spec
asked_spec old new q budget (Ok (Kept place)) (inl reused) = ap (λ (s : Session). s.spec) reused.counted
asked_spec old new q budget (Ok (Kept place)) (inr newly) = ap (λ (s : Session). s.spec) newly.kept
asked_spec old new q budget (Ok (Open r)) undecided = ap (λ (s : Session). s.spec) undecided.same
asked_spec old new q budget (Err (ask.TooMany c)) many = ap (λ (s : Session). s.spec) many.same
asked_spec old new q budget (Err ask.NoMemory) same = ap (λ (s : Session). s.spec) same

-- the report of a reply, in both ways of saying it
of_reply : (s : Session) (reply : Reply) (r : Report) → reply_report s reply ≡ Some r → IsReplyReport s reply r
of_reply s (Kept place) r is = is
of_reply s (Open report) r is = same_Some report r is

to_reply : (s : Session) (reply : Reply) (r : Report) → IsReplyReport s reply r → reply_report s reply ≡ Some r
to_reply s (Kept place) r is = is
to_reply s (Open report) r is = ap Some is

-- a kept report can be written
kept_writable : (s : Session) (place : ℕ) (r : Report) → AreKept s.spec.relations s.kept → slice_get s.kept place ≡ Some r
    → IsWritableReport s.spec.relations r
kept_writable s place r kept here =
    let it : IsKeptReport s.spec.relations r =
    subst (IsKeptReport s.spec.relations) (get_or_from_slice_get s.kept place r r here)
    (All-get_or (IsKeptReport s.spec.relations) s.kept place r (slice_get_within s.kept place r here) kept.each) in
    it.writable

-- a reply has a report that can be written
pub reply_writable : (old new : Session) (q : Question) (budget : ℕ) (reply : Reply) → AreKept new.spec.relations new.kept
    → Replies old new q budget (Ok reply) → IsRightReply old.spec q new reply → IsWritableReply new reply
reply_writable old new q budget (Kept place) kept replies right = record {
  report = right.report;
  is_report = right.is_report;
  writable = kept_writable new place right.report kept right.is_report;
}
reply_writable old new q budget (Open r) kept replies right = record {
  report = r;
  is_report = refl;
  writable = subst (λ (s : Spec). IsWritableReport s.relations r)
      (sym (asked_spec old new q budget (Ok (Open r)) replies)) replies.answer.writable;
}

-- the report of a reply is one
one_report : (s : Session) (reply : Reply) (r other : Report) → IsReplyReport s reply r → IsReplyReport s reply other → r ≡ other
one_report s (Kept place) r other is same = same_Some r other (sym is ∙ same)
one_report s (Open report) r other is same = sym is ∙ same

-- what is told of a reply
pub reply_told : (a : SessionSaid) (old new : Session) (line : ℕ) (q : Question) (reply : Reply) (t : Told)
    → Replies old new q a.budget (Ok reply) → IsRightReply old.spec q new reply → IsReplyTold new a.brief line reply t
    → IsReplied a old line q (step_of t new)
reply_told a old new line q reply t replies right told =
    let spec : new.spec ≡ old.spec = asked_spec old new q a.budget (Ok reply) replies in
    let same : right.report ≡ told.report =
    one_report new reply right.report told.report (of_reply new reply right.report right.is_report) told.is_report in
    record {
      reply = reply;
      replies = replies;
      report = told.report;
      is_report = told.is_report;
      right = subst (λ (r : Report). is_decided (kind_of r.verdict) ≡ true → IsRight old.spec q r.verdict) same right.right;
      text = told.text ∙ ap (λ (s : Spec). reply_text line ++ answer_text s.relations a.brief told.report) spec;
      decided = told.decided;
    }

-- what is told where there are too many answers
pub many_told : (a : SessionSaid) (old new : Session) (line : ℕ) (q : Question) (fault : AskFault) (t : Told)
    → Replies old new q a.budget (Err fault) → IsTooMany fault → t ≡ record { text = limit_line 3 line; undecided = false }
    → HasTooManyAnswers a old line q (step_of t new)
many_told a old new line q fault t replies many told = record {
  completion = many.0;
  replies = subst (λ (f : AskFault). Replies old new q a.budget (Err f)) many.1 replies;
  text = ap (λ (x : Told). x.text) told;
  decided = ap (λ (x : Told). x.undecided) told;
}
