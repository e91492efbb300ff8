-- What may be kept over an edit.
use Rattle.std.proofs.Common.{◌≡◌, ◌⊎◌, inl, inr, List, Result, Ok, Err, OnErr, OnOk, sym, subst}
use Rattle.std.proofs.lemmas.List.Elements.{All-weaker}
use Rattle.report_model.specs.declared.report.Report.{Report}
use Rattle.spec_edits.proofs.Kept.{edit_kept}
use Rattle.spec_edits.specs.Edits.{edited}
use Rattle.spec_edits.specs.declared.edit.Edit.{Edit}
use Rattle.spec_model.specs.Spec.{Spec}
use Rattle.currency_session.specs.Sessions.{AreKept, IsHeld, IsKeptReport}
use Rattle.currency_session.specs.Starts.{IsStart}
use Rattle.currency_session.specs.declared.start.Start.{Start}
use Rattle.currency_session.proofs.Written.{report_kept}

either : {A B P Q : Type 0} (result : Result A B) → OnOk result P → OnErr result Q → P ⊎ Q
either (Ok x) ok err = inl ok
either (Err e) ok err = inr err

after : (s t : Spec) (edit : Edit) (kept : List Report) → AreKept s.relations kept → (edited s edit ≡ Ok t) ⊎ (t ≡ s)
    → AreKept t.relations kept
after s t edit kept are (inl is) =
    record {
      few = are.few;
      each = All-weaker (IsKeptReport s.relations) (IsKeptReport t.relations)
          (λ r may.
          record {
            decided = may.decided;
            writable = report_kept s.relations t.relations r (edit_kept s t edit is) may.writable;
          })
          kept are.each;
    }
after s t edit kept are (inr same) = subst (λ (u : Spec). AreKept u.relations kept) (sym same) are

-- reports that may be kept still may be after an edit, or after a refusal
edited_kept : {A B : Type 0} (s t : Spec) (edit : Edit) (kept : List Report) (result : Result A B)
    → OnOk result (edited s edit ≡ Ok t) → OnErr result (t ≡ s) → AreKept s.relations kept → AreKept t.relations kept
edited_kept s t edit kept result ok err are = after s t edit kept are (either result ok err)

-- and what is held is, with what a search may start from after it
pub held_after : {A B : Type 0} (s t : Spec) (edit : Edit) (kept : List Report) (start : Start) (result : Result A B)
    → OnOk result (edited s edit ≡ Ok t) → OnErr result (t ≡ s) → AreKept s.relations kept → IsStart t start
    → IsHeld t kept start
held_after s t edit kept start result ok err are from =
    record { kept = edited_kept s t edit kept result ok err are; start = from }
