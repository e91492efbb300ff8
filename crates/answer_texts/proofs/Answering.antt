-- What a report that answers a question has.
use Rattle.std.proofs.Common.{◌≡◌, ℕ, true, List, All, Result, Err, refl, subst}
use Rattle.command_stages.specs.Named.{IsDeterminedTrouble}
use Rattle.command_stages.specs.declared.trouble.Trouble.{Trouble}
use Rattle.command_stages.specs.declared.trouble.Trouble.TheVariants as trouble
use Rattle.currency_ask.specs.Answered.{HasTooMany, IsAnswerWithin, IsDecidedBy, NamesFirst}
use Rattle.currency_ask.specs.declared.fault.AskFault.{AskFault}
use Rattle.currency_ask.specs.declared.fault.AskFault.TheVariants as fault
use Rattle.currency_report.specs.Reads.{ReadsReport}
use Rattle.currency_report.specs.declared.report.Lines.{Lines}
use Rattle.report_model.specs.Verdicts.{is_decided, kind_of}
use Rattle.report_model.specs.declared.report.Report.{Report}
use Rattle.report_verify.specs.Right.{IsRight}
use Rattle.report_verify.specs.Shown.{ShowsVerdict}
use Rattle.report_write.specs.Pieces.{report_pieces}
use Rattle.report_write.specs.Writable.{HasTextNames, IsWritableReport}
use Rattle.spec_model.specs.Facts.{AreRelations}
use Rattle.spec_model.specs.Completion.{Rankings}
use Rattle.spec_model.specs.Spec.{Spec}
use Rattle.spec_model.specs.declared.question.Question.{Question}
use Rattle.spec_model.specs.declared.relation.Relation.{Relation}
use Rattle.text_write.specs.Pieces.{text_of}
use Rattle.answer_texts.specs.Answers.{IsAnswer, ask_trouble}

-- reading what was written of a report that can be written gives the report again
abbrev pub WrittenIsRead : Type 0
WrittenIsRead = (relations : List Relation) (r : Report) → AreRelations relations → All HasTextNames relations
    → IsWritableReport relations r
    → (lines : Lines) × ReadsReport relations (text_of (report_pieces relations r)) (record { report = r; lines = lines })

-- what an answer has
pub record Answer (s : Spec) (q : Question) (budget : ℕ) (r : Report) : Type 0 where
  pub shown : ShowsVerdict s q r
  pub right : is_decided (kind_of r.verdict) ≡ true → IsRight s q r.verdict
  pub writable : IsWritableReport s.relations r
  pub within : IsAnswerWithin s q budget r
  pub enough : IsDecidedBy s q budget r
  pub first : NamesFirst s q r.verdict

pub is_answer : WrittenIsRead → (s : Spec) (q : Question) (budget : ℕ) (r : Report) → AreRelations s.relations
    → All HasTextNames s.relations
    → Answer s q budget r → IsAnswer s q budget r
is_answer law s q budget r relations names a =
    let read : (lines : Lines) × ReadsReport s.relations (text_of (report_pieces s.relations r))
    (record { report = r; lines = lines }) =
    law s.relations r relations names a.writable in
    record {
      shown = a.shown;
      right = a.right;
      lines = read.0;
      reread = read.1;
      within = a.within;
      enough =
          a.enough;
      first = a.first;
    }

-- where a query has too many answers, that is told
pub too_many_printed : (s : Spec) (q : Question) (told : AskFault) (e : Trouble)
    → ((c : Rankings) → ◌≡◌ {A = Result Report AskFault} (Err told) (Err (fault.TooMany c)) → HasTooMany s q c)
    → e ≡ ask_trouble told → IsDeterminedTrouble e → (c : Rankings) × HasTooMany s q c × (e ≡ trouble.Limit 3)
too_many_printed s q (fault.TooMany c) e too_many is determined = (c, too_many c refl, is)
too_many_printed s q fault.NoMemory e too_many is determined = absurd (subst IsDeterminedTrouble is determined)
