-- Questions that are bound, or refused, and then replied to.
use Rattle.std.proofs.Common.{◌≡◌, ◌⊎◌, ℕ, false, List, Some, None, IfSome, Ok, Err, inl, inr, refl, ap, subst}
use Rattle.bind_faults.specs.Faults as faults
use Rattle.bind_faults.specs.declared.fault.BindFault.{BindFault}
use Rattle.bind_faults.specs.declared.fault.BindFault.TheVariants as bind
use Rattle.command_stages.specs.Named.{IsDeterminedTrouble, IsUnread}
use Rattle.command_stages.specs.Stages.{bind_trouble}
use Rattle.command_stages.specs.declared.trouble.Trouble.{Trouble}
use Rattle.command_stages.specs.declared.trouble.Trouble.TheVariants as trouble
use Rattle.currency_session.specs.Sessions.{Session}
use Rattle.program_words.specs.Words.{SessionSaid}
use Rattle.question_bind.specs.Bound.{IsQuestionBound}
use Rattle.question_syntax.specs.declared.trees.QuestionTree.{QuestionTree}
use Rattle.spec_model.specs.declared.question.Question.{Question}
use Rattle.session_command.specs.Steps.{step_of}
use Rattle.session_command.specs.Texts.{trouble_line}
use Rattle.session_command.specs.Transcripts.{HasTooManyAnswers, IsAsked, IsReplied}
use Rattle.session_command.specs.declared.telling.Told.{Told}
use Rattle.session_command.proofs.Going.{Texts}

-- a question that is bound, and replied to
pub question_asked : (texts : Texts) (a : SessionSaid) (s next : Session) (line : ℕ) (t : QuestionTree) (q : Question)
    (told_of : Told)
    → IfSome texts (λ told. IsQuestionBound told s.spec.relations t (Ok q))
    → IsReplied a s line q (step_of told_of next) ⊎ HasTooManyAnswers a s line q (step_of told_of next)
    → IfSome texts (λ told. IsAsked told a s line t (step_of told_of next))
question_asked None a s next line t q told_of bound replied = tt
question_asked (Some told) a s next line t q told_of bound replied = inl (q, inl (q, bound, refl), replied)

-- a fault is determined where its trouble is
pub fault_determined : (script : List ℕ) (fault : BindFault) → IsDeterminedTrouble (bind_trouble script fault)
    → faults.IsDetermined {A = Question} (Err fault)
fault_determined script (bind.Refused refusal) determined = tt
fault_determined script (bind.CopyDiffers document line target source) determined = tt
fault_determined script (bind.Limit k) determined = tt
fault_determined script (bind.ReadFault name) determined = determined
fault_determined script bind.NoMemory determined = determined

-- a question that is refused
pub question_refused : (texts : Texts) (a : SessionSaid) (s : Session) (line : ℕ) (t : QuestionTree) (fault : BindFault)
    (told_of : Told) → IsDeterminedTrouble (bind_trouble a.script fault)
    → (faults.IsDetermined {A = Question} (Err fault)
    → IfSome texts (λ told. IsQuestionBound told s.spec.relations t (Err fault)))
    → told_of ≡ record { text = trouble_line line (bind_trouble a.script fault); undecided = false }
    → IfSome texts (λ told. IsAsked told a s line t (step_of told_of s))
question_refused None a s line t fault told_of determined bound is = tt
question_refused (Some told) a s line t fault told_of determined bound is = inr (record {
  trouble = bind_trouble a.script fault;
  due = inr (fault, bound (fault_determined a.script fault determined), refl);
  determined = determined;
  next = refl;
  text = ap (λ (x : Told). x.text) is;
  decided = ap (λ (x : Told). x.undecided) is;
})

-- a trouble that a fault is names a document where the fault does
pub fault_unread : (script : List ℕ) (fault : BindFault) (e : Trouble) (n : List ℕ)
    → (e ≡ trouble.NoMemory) ⊎ (e ≡ bind_trouble script fault) → IsUnread e n → faults.IsReadFaultOf {A = Question} (Err fault) n
fault_unread script fault e n (inl none) h = absurd (subst (λ (x : Trouble). IsUnread x n) none h)
fault_unread script (bind.Refused refusal) e n (inr is) h = absurd (subst (λ (x : Trouble). IsUnread x n) is h)
fault_unread script (bind.CopyDiffers document line target source) e n (inr is) h =
    absurd (subst (λ (x : Trouble). IsUnread x n) is h)
fault_unread script (bind.Limit k) e n (inr is) h = absurd (subst (λ (x : Trouble). IsUnread x n) is h)
fault_unread script (bind.ReadFault name) e n (inr is) h = subst (λ (x : Trouble). IsUnread x n) is h
fault_unread script bind.NoMemory e n (inr is) h = absurd (subst (λ (x : Trouble). IsUnread x n) is h)
