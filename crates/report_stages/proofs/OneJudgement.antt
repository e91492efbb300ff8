-- A report has one judgement.
use Rattle.std.proofs.Common.{◌≡◌, ◌∙◌, ℕ, List, Result, Ok, Err, sym, ap, inl, inr}
use Rattle.command_stages.proofs.OneRead.{IsOne, apart, err_same, ok_same}
use Rattle.currency_edge.specs.Shelf.{document}
use Rattle.currency_report.specs.Reads.{ReadsReport, RefusesReport, fault_of, said}
use Rattle.currency_report.specs.declared.report.ReadReport.{ReadReport}
use Rattle.currency_report.specs.declared.report.ReportFault.{ReportFault}
use Rattle.report_model.specs.declared.report.Part.{Part}
use Rattle.report_model.specs.declared.report.Report.{Report}
use Rattle.report_syntax.specs.Reads.{ReadsReportText, RefusesReportText}
use Rattle.report_syntax.specs.declared.tree.ReportTree.{ReportTree}
use Rattle.report_verify.specs.Shown.{ShowsVerdict, IsFirstUnshown}
use Rattle.report_verify.specs.declared.fault.Unshown.{Unshown}
use Rattle.spec_model.specs.Spec.{Spec}
use Rattle.spec_model.specs.declared.question.Question.{Question}
use Rattle.spec_model.specs.declared.relation.Relation.{Relation}
use Rattle.text_tokens.specs.declared.token.TextFault.{TextFault}
use Rattle.report_stages.specs.Judged.{IsReportSaid, IsReportRead, IsJudged, report_trouble}

-- what the layers below say of one reading of a report
pub record ReportReadings : Type 0 where
  pub report_tree : (source : List ℕ) (a b : ReportTree) → ReadsReportText source a → ReadsReportText source b → a ≡ b
  pub report_refusal : (source : List ℕ) (e f : TextFault) → RefusesReportText source e → RefusesReportText source f → e ≡ f
  pub report_not_both : (source : List ℕ) (t : ReportTree) (e : TextFault) → ReadsReportText source t
      → RefusesReportText source e → ⊥

-- and of one first failing check
pub record Checks : Type 0 where
  pub unshown : (s : Spec) (q : Question) (r : Report) (p p' : Part) (why why' : Unshown)
      → IsFirstUnshown s q r p why → IsFirstUnshown s q r p' why' → (p ≡ p') × (why ≡ why')
  pub not_shown : (s : Spec) (q : Question) (r : Report) (p : Part) (why : Unshown) → IsFirstUnshown s q r p why
      → ShowsVerdict s q r → ⊥

-- two trees of one text say the same
said_same : ReportReadings → (relations : List Relation) (bytes : List ℕ) (t u : ReportTree) (a b : Result ReadReport ReportFault)
    → ReadsReportText bytes t → ReadsReportText bytes u → said relations t ≡ a → said relations u ≡ b → a ≡ b
said_same laws relations bytes t u a b read read_too says says_too =
    sym says ∙ ap (said relations) (laws.report_tree bytes t u read read_too) ∙ says_too

refusal_one : ReportReadings → (relations : List Relation) (bytes : List ℕ) (e f : ReportFault)
    → RefusesReport relations bytes e → RefusesReport relations bytes f → e ≡ f
refusal_one laws relations bytes e f (inl h) (inl k) = h.2 ∙ ap fault_of (laws.report_refusal bytes h.0 k.0 h.1 k.1) ∙ sym k.2
refusal_one laws relations bytes e f (inl h) (inr k) = absurd (laws.report_not_both bytes k.tree h.0 k.spelled h.1)
refusal_one laws relations bytes e f (inr h) (inl k) = absurd (laws.report_not_both bytes h.tree k.0 h.spelled k.1)
refusal_one laws relations bytes e f (inr h) (inr k) =
    err_same e f (said_same laws relations bytes h.tree k.tree (Err e) (Err f) h.spelled k.spelled h.refuses k.refuses)

not_refused : ReportReadings → (relations : List Relation) (bytes : List ℕ) (r : ReadReport) (e : ReportFault)
    → ReadsReport relations bytes r → RefusesReport relations bytes e → ⊥
not_refused laws relations bytes r e read (inl h) = laws.report_not_both bytes read.tree h.0 read.spelled h.1
not_refused laws relations bytes r e read (inr h) =
    apart r e (said_same laws relations bytes read.tree h.tree (Ok r) (Err e) read.spelled h.spelled read.says h.refuses)

pub report_one : ReportReadings → (relations : List Relation) (name bytes : List ℕ) → IsOne (IsReportSaid relations name bytes)
report_one laws relations name bytes a b (inl h) (inl k) =
    h.2 ∙ ap Ok (ok_same h.0 k.0 (said_same laws relations bytes h.1.tree k.1.tree (Ok h.0) (Ok k.0) h.1.spelled
    k.1.spelled h.1.says k.1.says)) ∙ sym k.2
report_one laws relations name bytes a b (inl h) (inr k) = absurd (not_refused laws relations bytes h.0 k.0 h.1 k.1)
report_one laws relations name bytes a b (inr h) (inl k) = absurd (not_refused laws relations bytes k.0 h.0 k.1 h.1)
report_one laws relations name bytes a b (inr h) (inr k) = h.2 ∙ ap (λ f. Err (report_trouble name f))
    (refusal_one laws relations bytes h.0 k.0 h.1 k.1) ∙ sym k.2

pub report_read_one : ReportReadings → (told : List (List ℕ × List ℕ)) (relations : List Relation) (name : List ℕ)
    → IsOne (IsReportRead told relations name)
report_read_one laws told relations name = report_one laws relations name (document told name)

pub judged_one : Checks → (s : Spec) (q : Question) (name : List ℕ) (r : ReadReport) → IsOne (IsJudged s q name r)
judged_one laws s q name r a b (inl h) (inl k) = h.1 ∙ sym k.1
judged_one laws s q name r a b (inl h) (inr k) = absurd (laws.not_shown s q r.report k.0 k.1 k.2 h.0)
judged_one laws s q name r a b (inr h) (inl k) = absurd (laws.not_shown s q r.report h.0 h.1 h.2 k.0)
judged_one laws s q name r a b (inr h) (inr k) =
    let same = laws.unshown s q r.report h.0 k.0 h.1 k.1 h.2 k.2 in
    let first = h.3 in
    let second = k.3 in
    let part = same.0 in
    let why = same.1 in
    cc
