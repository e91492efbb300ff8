-- What `verify` comes to, stage by stage.
use Rattle.std.proofs.Common.{◌≡◌, ℕ, List, Option, Some, None, IfOk, IfErr, IfSome, Result, Ok, Err, ap, subst, refl}
use Rattle.command_stages.specs.Named.{IsDetermined, IsDeterminedTrouble}
use Rattle.command_stages.specs.Stages.{IsSpecRead, IsQuestionRead}
use Rattle.command_stages.specs.declared.done.Done.{Done}
use Rattle.command_stages.specs.declared.trouble.Trouble.{Trouble}
use Rattle.command_stages.specs.declared.trouble.Trouble.TheVariants as trouble
use Rattle.program_words.specs.Words.{VerifySaid}
use Rattle.report_model.specs.declared.verdict.VerdictKind.{VerdictKind}
use Rattle.spec_model.specs.Spec.{Spec}
use Rattle.spec_model.specs.declared.question.Question.{Question}
use Rattle.verify_command.specs.Judged.{IsJudgedDue, IsVerifyDue, accepted_done}
use Rattle.verify_command.specs.Shown.{IsShownRight, IsVerifyPrinted}
use Rattle.report_stages.specs.Shown.{IsReportShown}

-- the stages together
pub shown_right : (texts : Option (List (List ℕ × List ℕ))) (v : VerifySaid) (s : Spec) (q : Question) (r : Result VerdictKind Trouble)
    → IfSome texts (λ told. IsSpecRead told v.spec (Ok s)) → IfSome texts
    (λ told. IsQuestionRead told s.relations v.question (Ok q))
    → IfOk r (λ kind. IfSome texts (λ told. IsReportShown told s q v.report kind))
    → IfOk r (λ kind. IfSome texts (λ told. IsShownRight told v kind))
shown_right None v s q (Ok kind) spec question report = tt
shown_right (Some told) v s q (Ok kind) spec question report =
    record { spec = s; question = q; spec_read = spec; question_read = question; report = report }
shown_right texts v s q (Err e) spec question report = tt

-- ---- the line

pub accepted_due : (texts : Option (List (List ℕ × List ℕ))) (v : VerifySaid) (kind : VerdictKind) (outcome : Result Done Trouble)
    → IfSome texts (λ told. IsJudgedDue told v (Ok kind)) → IfOk outcome (λ d. d ≡ accepted_done kind)
    → IfErr outcome (λ e. e ≡ trouble.NoMemory)
    → IsDetermined outcome → IfSome texts (λ told. IsVerifyDue told v outcome)
accepted_due None v kind outcome due told memory determined = tt
accepted_due (Some t) v kind (Ok d) due told memory determined = (Ok kind, due, ap Ok told)
accepted_due (Some t) v kind (Err e) due told memory determined = absurd (subst IsDeterminedTrouble memory determined)

pub accepted_printed : (texts : Option (List (List ℕ × List ℕ))) (v : VerifySaid) (kind : VerdictKind) (outcome : Result Done Trouble)
    → IfSome texts (λ told. IsShownRight told v kind) → IfOk outcome (λ d. d ≡ accepted_done kind)
    → IfOk outcome (λ d. IfSome texts (λ told. IsVerifyPrinted told v d))
accepted_printed None v kind (Ok d) right told = tt
accepted_printed (Some t) v kind (Ok d) right told = (kind, right, told)
accepted_printed texts v kind (Err e) right told = tt

pub refused_due : (texts : Option (List (List ℕ × List ℕ))) (v : VerifySaid) (e : Trouble) → IfSome texts
    (λ told. IsJudgedDue told v (Err e))
    → IfSome texts (λ told. IsVerifyDue told v (Err e))
refused_due None v e due = tt
refused_due (Some t) v e due = (Err e, due, refl)
